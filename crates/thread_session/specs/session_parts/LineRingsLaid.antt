-- The two ends of the rings of all lines, laid beside each other, and lines that have come to their end.
use Rattle.std.specs.Prelude.{◌≡◌, ℕ, ◌<◌, ◌≤◌, List, ◌++◌, length, slice_get, Some, Contains}
use Rattle.law_model.specs.Common.{Container, Cell, End}
use Rattle.thread_rings.specs.EndsOfRing.{OutEnd, InEnd, out_passed, in_passed, in_items, AreEnds, SameOut, SameIn}
use Rattle.thread_rings.specs.declared.line_worker.LineWorker.{LineWorker}
use Rattle.thread_alarms.specs.declared.watched_line.served_line.ServedLine.{ServedLine}
use Rattle.thread_alarms.specs.watched_line.ServedWithPosts.{worker_of}

-- each worker has pushed the end
abbrev pub AreDone : List LineWorker → Type 0
AreDone workers = (m : ℕ) (worker : LineWorker) → slice_get workers m ≡ Some worker →
    Contains (out_passed worker.producer) End

-- so it is with a line that is served, and with each
abbrev pub IsServedDone : ServedLine → Type 0
IsServedDone line = Contains (out_passed (worker_of line).producer) End

abbrev pub AreServedDone : List ServedLine → Type 0
AreServedDone lines = (m : ℕ) (line : ServedLine) → slice_get lines m ≡ Some line → IsServedDone line

-- ---- ends of the same rings, by line
abbrev pub AreSendEnds : List (OutEnd Container) → List LineWorker → Type 0
AreSendEnds tx workers =
    (m : ℕ) (out : OutEnd Container) (worker : LineWorker) → slice_get tx m ≡ Some out →
    slice_get workers m ≡ Some worker → AreEnds out worker.consumer

abbrev pub AreReceiveEnds : List LineWorker → List (InEnd Cell) → Type 0
AreReceiveEnds workers rx =
    (m : ℕ) (worker : LineWorker) (into : InEnd Cell) → slice_get workers m ≡ Some worker →
    slice_get rx m ≡ Some into → AreEnds worker.producer into

-- ---- a look at two ends that lie beside each other: they are ends of one ring, what has passed stays, and what was
-- pushed is what was
-- popped and what is still there
pub record IsSendLaid (out : OutEnd Container) (worker : LineWorker) (out' : OutEnd Container)
    (worker' : LineWorker) : Type 0 where
  pub ends : AreEnds out' worker'.consumer
  pub fifo : in_passed worker'.consumer ++ in_items worker'.consumer ≡ out_passed out'
  pub pushed : out_passed out' ≡ out_passed out
  pub popped : in_passed worker'.consumer ≡ in_passed worker.consumer
  pub same : SameOut out out'
  pub number : worker'.line ≡ worker.line
  pub core : worker'.core ≡ worker.core
  pub producer : worker'.producer ≡ worker.producer

pub record IsReceiveLaid (worker : LineWorker) (into : InEnd Cell) (worker' : LineWorker)
    (into' : InEnd Cell) : Type 0 where
  pub ends : AreEnds worker'.producer into'
  pub fifo : in_passed into' ++ in_items into' ≡ out_passed worker'.producer
  pub pushed : out_passed worker'.producer ≡ out_passed worker.producer
  pub popped : in_passed into' ≡ in_passed into
  pub same : SameIn into into'
  pub number : worker'.line ≡ worker.line
  pub core : worker'.core ≡ worker.core
  pub consumer : worker'.consumer ≡ worker.consumer

-- so it is with each pair of the first ones of two lists, and the others are as they were
pub record PairsBelow {A B : Type 0} (R : A → B → A → B → Type 0) (n : ℕ) (as_ : List A) (bs : List B) (as' : List A)
    (bs' : List B) : Type 0 where
  pub first_count : length as' ≡ length as_
  pub second_count : length bs' ≡ length bs
  pub each : (m : ℕ) (a : A) (b : B) (a' : A) (b' : B) → m < n → slice_get as_ m ≡ Some a → slice_get bs m ≡ Some b →
      slice_get as' m ≡ Some a' → slice_get bs' m ≡ Some b' → R a b a' b'
  pub first_rest : (m : ℕ) → n ≤ m → slice_get as' m ≡ slice_get as_ m
  pub second_rest : (m : ℕ) → n ≤ m → slice_get bs' m ≡ slice_get bs m

-- and with all
abbrev pub AreSendsLaid : List (OutEnd Container) → List LineWorker → List (OutEnd Container) → List LineWorker →
    Type 0
AreSendsLaid tx workers tx' workers' = PairsBelow IsSendLaid (length workers) tx workers tx' workers'

abbrev pub AreReceivesLaid : List LineWorker → List (InEnd Cell) → List LineWorker → List (InEnd Cell) → Type 0
AreReceivesLaid workers rx workers' rx' = PairsBelow IsReceiveLaid (length workers) workers rx workers' rx'
