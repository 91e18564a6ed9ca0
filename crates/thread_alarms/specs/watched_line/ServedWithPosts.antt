-- Lines that are served, and the posts of those that are watched.
use Rattle.std.specs.Prelude.{◌≡◌, ℕ, ◌+◌, ◌*◌, ◌<◌, ◌≤◌, List, [], ◌∷◌, ◌++◌, length, slice_get, Option, Some, None}
use Rattle.std.specs.Prelude.{option_to_list}
use Rattle.std.specs.List.{AllZip}
use Rattle.law_model.specs.Common.{AreWindows}
use Rattle.thread_rings.specs.declared.line_worker.LineWorker.{LineWorker}
use Rattle.thread_rings.specs.WorkerOfLine.{number_of, windows_of, total_of, raised_by, IsLater}
use Rattle.thread_alarms.specs.declared.alarm_log.alarm_post.AlarmPost.{AlarmPost}
use Rattle.thread_alarms.specs.alarm_log.Posts.{posted_by, most_by, SamePost}
use Rattle.thread_alarms.specs.declared.watched_line.served_line.ServedLine.{ServedLine}

-- the worker of the line
abbrev pub worker_of : ServedLine → LineWorker
worker_of line = line.worker

-- its post, where it is watched
abbrev pub post_of : ServedLine → Option AlarmPost
post_of line = line.post

-- the number of the line
abbrev pub line_of : ServedLine → ℕ
line_of line = number_of (worker_of line)

-- the posts of those that are watched, in their order
abbrev pub posts_of : List ServedLine → List AlarmPost
posts_of [] = []
posts_of (line ∷ lines) = option_to_list (post_of line) ++ posts_of lines

-- the post has the alarms of the worker so far and room for all that may come, at places of 32 bits
pub record MayWatch (worker : LineWorker) (post : AlarmPost) : Type 0 where
  pub windows : AreWindows 0 (windows_of worker)
  pub most : 2 * length (windows_of worker) + 1 ≤ most_by post
  pub small : total_of worker < 4294967296
  pub told : posted_by post ≡ raised_by worker

-- so it is at each place
abbrev pub AreWatchable : List LineWorker → List AlarmPost → Type 0
AreWatchable workers posts = (m : ℕ) (worker : LineWorker) (post : AlarmPost) →
    slice_get workers m ≡ Some worker → slice_get posts m ≡ Some post → MayWatch worker post

-- the same post later, or none as before
abbrev pub IsPostLater : Option AlarmPost → Option AlarmPost → Type 0
IsPostLater None None = Unit {0}
IsPostLater None (Some post) = ⊥
IsPostLater (Some post) None = ⊥
IsPostLater (Some post) (Some later) = SamePost post later

-- the same line, later
pub record IsServedLater (a b : ServedLine) : Type 0 where
  pub worker : IsLater (worker_of a) (worker_of b)
  pub post : IsPostLater (post_of a) (post_of b)

-- so it is with each
abbrev pub AreServedLater : List ServedLine → List ServedLine → Type 0
AreServedLater old new = AllZip IsServedLater old new

-- what was posted through each post are the alarms of the worker at its place
abbrev pub AreTold : List LineWorker → List AlarmPost → Type 0
AreTold workers posts = (m : ℕ) (worker : LineWorker) (post : AlarmPost) →
    slice_get workers m ≡ Some worker → slice_get posts m ≡ Some post → posted_by post ≡ raised_by worker
