-- What is known of a post.
use Rattle.std.specs.Prelude.{◌≡◌, ℕ, List, [], ◌++◌}
use Rattle.std.specs.Arc.{arc_value}
use Rattle.crossbeam_queue.specs.Passes.{view, ruled_capacity}
use Rattle.thread_rings.specs.declared.alarm_kinds.Alarm.{Alarm}
use Rattle.thread_alarms.specs.declared.alarm_log.queue_rule.Known.{Known}
use Rattle.thread_alarms.specs.declared.alarm_log.alarm_post.AlarmPost.{AlarmPost}
use Rattle.thread_alarms.specs.alarm_log.Views.{put_of, posts_in}

-- the number of the post
abbrev pub number_of : AlarmPost → ℕ
number_of post = post.number

-- how many alarms may be posted through it
abbrev pub most_by : AlarmPost → ℕ
most_by post = post.most

-- how many alarms the queue has room for
abbrev pub room_by : AlarmPost → ℕ
room_by post = ruled_capacity (arc_value post.queue)

-- what was put into the queue, oldest first
abbrev pub put_by : AlarmPost → List Alarm
put_by post = put_of (view post.pass)

-- what the post keeps, oldest first
abbrev pub kept_by : AlarmPost → List Alarm
kept_by post = post.kept.items

-- what was posted, oldest first
abbrev pub posted_by : AlarmPost → List Alarm
posted_by post = put_by post ++ kept_by post

-- how many posts the log has
abbrev pub posts_by : AlarmPost → ℕ
posts_by post = posts_in (view post.pass)

-- both are posts of one log
abbrev pub OfOneLog : AlarmPost → AlarmPost → Type 0
OfOneLog a b = b.pass.table_id ≡ a.pass.table_id

-- what the log will know of the post
abbrev pub known_by : AlarmPost → Known
known_by post = record { from = number_of post; put = put_by post }

-- the same post, at another moment
pub record SamePost (a b : AlarmPost) : Type 0 where
  pub number : number_of b ≡ number_of a
  pub most : most_by b ≡ most_by a
  pub log : OfOneLog a b
  pub posts : posts_by b ≡ posts_by a
  pub room : room_by b ≡ room_by a

-- nothing was posted through it yet
pub record IsFresh (post : AlarmPost) (n count slots limit : ℕ) : Type 0 where
  pub number : number_of post ≡ n
  pub most : most_by post ≡ limit
  pub room : room_by post ≡ slots
  pub posts : posts_by post ≡ count
  pub put : put_by post ≡ []
  pub kept : kept_by post ≡ []
