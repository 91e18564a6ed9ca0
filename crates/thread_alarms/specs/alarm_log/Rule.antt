-- The rule of the queue.
use Rattle.std.specs.Prelude.{◌≡◌, ◌⊎◌, ℕ, ◌<◌, ◌≤◌, List, [], ◌∷◌, ◌++◌, length}
use mathlib.Core.Option.{Option, some, none}
use lib.ListN.{get_elem?}
use Rattle.thread_rings.specs.declared.alarm_kinds.Alarm.{Alarm}
use Rattle.thread_alarms.specs.declared.alarm_log.tagged_alarm.Tagged.{Tagged}
use Rattle.thread_alarms.specs.declared.alarm_log.queue_rule.Known.{Known}
use Rattle.thread_alarms.specs.declared.alarm_log.queue_rule.View.{View}
use Rattle.thread_alarms.specs.declared.alarm_log.queue_rule.View.TheVariants.{Setting, Log, Post, Spent}
use Rattle.thread_alarms.specs.alarm_log.Alarms.{through}
use Rattle.thread_alarms.specs.alarm_log.Views.{AreApart, AreBelow}

-- these posts have no pass any more, and this is what was put through them
abbrev pub AreKnown : (ℕ → Option ℕ) → (ℕ → List Alarm) → List Known → Type 0
AreKnown seat sent [] = Unit {0}
AreKnown seat sent (k ∷ ks) = (seat k.from ≡ none) × (sent k.from ≡ k.put) × AreKnown seat sent ks

-- a pass knows what is so: the log has the one pass that gets, and later posts were not made; each post has one pass
abbrev pub Fits :
    ℕ → ℕ → ℕ → (ℕ → Option ℕ) → (ℕ → List Alarm) → List Tagged → ℕ → View → Type 0
Fits reader most posts seat sent got pass (Setting n limit count) = ⊥
Fits reader most posts seat sent got pass (Log h) =
    (pass ≡ reader) × (h.got ≡ got) × (h.most ≡ most)
    × ((p : ℕ) → h.made ≤ p → (seat p ≡ none) × (sent p ≡ []))
    × AreKnown seat sent h.known × AreApart h.known × AreBelow h.made h.known × (h.posts ≡ posts)
Fits reader most posts seat sent got pass (Post from limit count put) =
    (seat from ≡ some pass) × (put ≡ sent from) × (limit ≡ most) × (count ≡ posts) × (from < posts)
Fits reader most posts seat sent got pass Spent = Unit {0}

-- what was put through each post is what was got of it and then what the queue holds of it, and it is within the limit
pub record Delivers (items : List Tagged) (views : List View) : Type 0 where
  pub reader : ℕ
  pub most : ℕ
  pub posts : ℕ
  pub seat : ℕ → Option ℕ
  pub sent : ℕ → List Alarm
  pub got : List Tagged
  pub order : (p : ℕ) → through p (got ++ items) ≡ sent p
  pub limit : (p : ℕ) → length (sent p) ≤ most
  pub later : (p : ℕ) → posts ≤ p → sent p ≡ []
  pub fits : (pass : ℕ) (v : View) → get_elem? views pass ≡ some v → Fits reader most posts seat sent got pass v

-- there is one pass, which sets the limit
pub record Sets (items : List Tagged) (views : List View) : Type 0 where
  pub count : ℕ
  pub limit : ℕ
  pub posts : ℕ
  pub only : views ≡ Setting count limit posts ∷ []
  pub held : length items ≡ count

-- the rule
abbrev pub Holds : List Tagged → List View → Type 0
Holds items views = Sets items views ⊎ Delivers items views
