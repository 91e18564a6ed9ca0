-- What is known of a log.
use Rattle.std.specs.Prelude.{◌≡◌, ℕ, List, [], length, slice_get, Some}
use Rattle.crossbeam_queue.specs.Passes.{view}
use Rattle.thread_rings.specs.declared.alarm_kinds.Alarm.{Alarm}
use Rattle.thread_alarms.specs.declared.alarm_log.tagged_alarm.Tagged.{Tagged}
use Rattle.thread_alarms.specs.declared.alarm_log.alarm_post.AlarmPost.{AlarmPost}
use Rattle.thread_alarms.specs.declared.alarm_log.log_turns.AlarmLog.{AlarmLog}
use Rattle.thread_alarms.specs.declared.alarm_log.log_turns.AlarmList.{AlarmList}
use Rattle.thread_alarms.specs.alarm_log.Alarms.{of_line}
use Rattle.thread_alarms.specs.alarm_log.Views.{IsHeard, made_of, most_of}
use Rattle.thread_alarms.specs.alarm_log.Posts.{most_by, posted_by, IsFresh}

-- how many posts the log has
abbrev pub posts_of : AlarmLog → ℕ
posts_of log = made_of (view log.pass)

-- how many alarms may be posted through each of them
abbrev pub most_in : AlarmLog → ℕ
most_in log = most_of (view log.pass)

-- the alarms in the list of the log so far
abbrev pub moved_by : AlarmLog → List Alarm
moved_by log = log.list.items

-- how many looks at its queue found no alarm
abbrev pub misses_of : AlarmLog → ℕ
misses_of log = log.misses

-- what was put through the posts that have ended is what was got and what the queue holds of it
abbrev pub was_heard : AlarmLog → List Tagged → Type 0
was_heard log = IsHeard (view log.pass)

-- the post is one of the log's
pub record IsPostOf (log : AlarmLog) (post : AlarmPost) : Type 0 where
  pub queue : post.pass.table_id ≡ log.pass.table_id
  pub most : most_by post ≡ most_in log

-- the same log, at another moment
pub record SameLog (a b : AlarmLog) : Type 0 where
  pub queue : b.pass.table_id ≡ a.pass.table_id
  pub posts : posts_of b ≡ posts_of a
  pub most : most_in b ≡ most_in a

-- a log of these posts, to which nothing came yet
pub record IsMade (log : AlarmLog) (made : List AlarmPost) (n slots limit : ℕ) : Type 0 where
  pub posts : posts_of log ≡ n
  pub most : most_in log ≡ limit
  pub moved : moved_by log ≡ []
  pub count : length made ≡ n
  pub fresh : (i : ℕ) (post : AlarmPost) → slice_get made i ≡ Some post → IsFresh post i n slots limit
  pub one_log : (i : ℕ) (post : AlarmPost) → slice_get made i ≡ Some post → IsPostOf log post

-- the alarms of the list
abbrev pub alarms_in : AlarmList → List Alarm
alarms_in list = list.list.items

-- no alarm of line m was posted through another post than the one at place i
abbrev pub IsAlone : ℕ → ℕ → List AlarmPost → Type 0
IsAlone m i posts = (j : ℕ) (other : AlarmPost) →
    slice_get posts j ≡ Some other → (j ≡ i → ⊥) → of_line m (posted_by other) ≡ []
