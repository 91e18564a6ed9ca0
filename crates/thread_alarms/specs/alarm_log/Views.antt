-- What a pass of the queue knows, and how it changes.
use Rattle.std.specs.Prelude.{◌≡◌, ◌≢◌, ℕ, ◌+◌, ◌*◌, ◌<◌, ◌≤◌, List, [], ◌∷◌, ◌++◌, length}
use Rattle.thread_rings.specs.declared.alarm_kinds.Alarm.{Alarm}
use Rattle.thread_alarms.specs.declared.alarm_log.tagged_alarm.Tagged.{Tagged}
use Rattle.thread_alarms.specs.declared.alarm_log.queue_rule.Known.{Known}
use Rattle.thread_alarms.specs.declared.alarm_log.queue_rule.Heard.{Heard}
use Rattle.thread_alarms.specs.declared.alarm_log.queue_rule.View.{View}
use Rattle.thread_alarms.specs.declared.alarm_log.queue_rule.View.TheVariants.{Setting, Log, Post, Spent}
use Rattle.thread_alarms.specs.alarm_log.Alarms.{through}

-- so many posts were made, and the log has heard nothing
abbrev pub made_first : ℕ → ℕ → ℕ → Heard
made_first most posts made = record { most = most; posts = posts; made = made; got = []; known = [] }

-- no post was made yet
abbrev pub nothing_heard : ℕ → ℕ → Heard
nothing_heard most posts = made_first most posts 0

-- the first pass is the log's, once it has set the limit
abbrev pub listening : View → View
listening (Setting n most posts) = Log (nothing_heard most posts)
listening (Log h) = Log h
listening (Post n most posts put) = Post n most posts put
listening Spent = Spent

-- one more post was made
abbrev pub and_made : View → View
and_made (Log h) = Log (record h { made = h.made + 1 })
and_made (Setting n most posts) = Setting n most posts
and_made (Post n most posts put) = Post n most posts put
and_made Spent = Spent

-- the pass of that post
abbrev pub new_post : View → View
new_post (Log h) = Post h.made h.most h.posts []
new_post (Setting n most posts) = Spent
new_post (Post n most posts put) = Spent
new_post Spent = Spent

-- one more alarm was put through the post
abbrev pub and_put : View → Alarm → View
and_put (Post n most posts put) a = Post n most posts (put ++ a ∷ [])
and_put (Log h) a = Log h
and_put (Setting n most posts) a = Setting n most posts
and_put Spent a = Spent

-- the log has got one more
abbrev pub and_got : View → Tagged → View
and_got (Log h) x = Log (record h { got = h.got ++ x ∷ [] })
and_got (Setting n most posts) x = Setting n most posts
and_got (Post n most posts put) x = Post n most posts put
and_got Spent x = Spent

-- what there is to know of a post, by its pass
abbrev pub known_of_post : View → List Known
known_of_post (Post n most posts put) = record { from = n; put = put } ∷ []
known_of_post (Log h) = []
known_of_post (Setting n most posts) = []
known_of_post Spent = []

-- the log knows what was put through these posts too
abbrev pub with_known : View → List Known → View
with_known (Log h) more = Log (record h { known = h.known ++ more })
with_known (Setting n most posts) more = Setting n most posts
with_known (Post n most posts put) more = Post n most posts put
with_known Spent more = Spent

-- the log knows what was put through the post of that pass too
abbrev pub and_known : View → View → View
and_known v w = with_known v (known_of_post w)

-- what the log's pass knows
abbrev pub heard_of : View → Heard
heard_of (Log h) = h
heard_of (Setting n most posts) = nothing_heard 0 0
heard_of (Post n most posts put) = nothing_heard 0 0
heard_of Spent = nothing_heard 0 0

-- what was got, oldest first
abbrev pub got_of : View → List Tagged
got_of v = (heard_of v).got

-- how many posts were made
abbrev pub made_of : View → ℕ
made_of v = (heard_of v).made

-- how many alarms may be put through a post
abbrev pub most_of : View → ℕ
most_of v = (heard_of v).most

-- what is known of the posts whose passes were joined
abbrev pub known_of : View → List Known
known_of v = (heard_of v).known

-- how many posts there will be
abbrev pub posts_in : View → ℕ
posts_in (Post n most posts put) = posts
posts_in (Log h) = h.posts
posts_in (Setting n most posts) = posts
posts_in Spent = 0

-- what was put through the post of a pass, oldest first
abbrev pub put_of : View → List Alarm
put_of (Post n most posts put) = put
put_of (Log h) = []
put_of (Setting n most posts) = []
put_of Spent = []

-- what was put through these posts is what xs has of them
abbrev pub AreHeard : List Tagged → List Known → Type 0
AreHeard xs [] = Unit {0}
AreHeard xs (k ∷ ks) = (through k.from xs ≡ k.put) × AreHeard xs ks

-- the number is that of none of them
abbrev pub IsNew : ℕ → List Known → Type 0
IsNew n [] = Unit {0}
IsNew n (k ∷ ks) = (k.from ≢ n) × IsNew n ks

-- each has another number
abbrev pub AreApart : List Known → Type 0
AreApart [] = Unit {0}
AreApart (k ∷ ks) = IsNew k.from ks × AreApart ks

-- each has a number below n
abbrev pub AreBelow : ℕ → List Known → Type 0
AreBelow n [] = Unit {0}
AreBelow n (k ∷ ks) = (k.from < n) × AreBelow n ks

-- what was put through the posts that are known is what was got and then what the queue holds of it; there are no posts
-- but those made
abbrev pub IsHeard : View → List Tagged → Type 0
IsHeard (Log h) items =
    ((p : ℕ) → h.made ≤ p → through p (h.got ++ items) ≡ [])
    × AreHeard (h.got ++ items) h.known × AreApart h.known × AreBelow h.made h.known
IsHeard (Setting n most posts) items = Unit {0}
IsHeard (Post n most posts put) items = Unit {0}
IsHeard Spent items = Unit {0}

-- the queue holds no more than what was put through this post and what all others may put
abbrev pub IsHeld : View → List Tagged → Type 0
IsHeld (Post n most posts put) items = length items + most ≤ posts * most + length put
IsHeld (Log h) items = Unit {0}
IsHeld (Setting n most posts) items = Unit {0}
IsHeld Spent items = Unit {0}
