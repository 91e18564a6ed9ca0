-- What holds between the queue of a log, its pass and its list.
use Rattle.std.specs.Prelude.{◌≡◌, ◌*◌, ◌≤◌, Option, vec_capacity}
use Rattle.std.specs.Global.{Vec}
use Rattle.crossbeam_queue.specs.Passes.{Pass, view, IsPassOf}
use Rattle.crossbeam_queue.specs.declared.array_queue.Doing.{Doing}
use Rattle.crossbeam_queue.specs.declared.array_queue.Slotted.{Slotted}
use Rattle.thread_rings.specs.declared.alarm_kinds.Alarm.{Alarm}
use Rattle.thread_alarms.specs.declared.alarm_log.tagged_alarm.Tagged.{Tagged}
use Rattle.thread_alarms.specs.declared.alarm_log.queue_rule.View.{View}
use Rattle.thread_alarms.specs.declared.alarm_log.queue_rule.View.TheVariants.{Log}
use Rattle.thread_alarms.specs.alarm_log.Alarms.{alarms_of}
use Rattle.thread_alarms.specs.alarm_log.Views.{heard_of, got_of, made_of, most_of, known_of}

-- the pass is that of the log; the list has what was got, and room for all that may come
pub record Listens {Q A : Type 0} (queue : Slotted (Option Tagged) (Doing Tagged View) Q A)
    (pass : Pass Tagged View) (list : Vec Alarm) : Type 0 where
  pub own : IsPassOf queue pass
  pub is : view pass ≡ Log (heard_of (view pass))
  pub listed : list.items ≡ alarms_of (got_of (view pass))
  pub room : made_of (view pass) * most_of (view pass) ≤ vec_capacity list

-- the pass of the same log, which has joined the same posts
pub record SameEars (a b : Pass Tagged View) : Type 0 where
  pub log : b.table_id ≡ a.table_id
  pub made : made_of (view b) ≡ made_of (view a)
  pub most : most_of (view b) ≡ most_of (view a)
  pub known : known_of (view b) ≡ known_of (view a)
