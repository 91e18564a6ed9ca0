-- Lines that are served, as they are dealt to shares and come back later.
use Rattle.std.specs.Prelude.{◌≡◌, ℕ, ◌+◌, ◌%◌, ◌==◌, ◌≤◌, List, [], filter, slice_get, Some, vec_capacity}
use Rattle.std.specs.Global.{Vec}
use Rattle.std.specs.List.{AllZip}
use Rattle.thread_alarms.specs.declared.watched_line.served_line.ServedLine.{ServedLine}
use Rattle.thread_rings.specs.declared.line_worker.LineWorker.{LineWorker}
use Rattle.thread_rings.specs.WorkerOfLine.{IsLater}
use Rattle.thread_alarms.specs.watched_line.ServedWithPosts.{line_of, AreServedLater}

-- the same workers, each later
abbrev pub AreLater : List LineWorker → List LineWorker → Type 0
AreLater old new = AllZip IsLater old new

-- the lines are those from a number on
abbrev pub AreNumbered : ℕ → List ServedLine → Type 0
AreNumbered from workers = (k : ℕ) (worker : ServedLine) → slice_get workers k ≡ Some worker → line_of worker ≡ from + k

-- share w of some shares: the workers of the lines m with m mod shares = w
abbrev pub share_of : ℕ → ℕ → List ServedLine → List ServedLine
share_of shares w workers = filter (λ (worker : ServedLine). line_of worker % shares == w) workers

-- each share has its workers
abbrev pub AreDealt : List ServedLine → ℕ → List (Vec ServedLine) → Type 0
AreDealt workers shares dealt = (w : ℕ) (share : Vec ServedLine) → slice_get dealt w ≡ Some share →
    share.items ≡ share_of shares w workers

-- each share has its workers, later
abbrev pub AreBack : List ServedLine → ℕ → List (Vec ServedLine) → Type 0
AreBack workers shares back = (w : ℕ) (share : Vec ServedLine) → slice_get back w ≡ Some share →
    AreServedLater (share_of shares w workers) share.items

-- shares beside each other, of which each of the second has the workers of the first, later
abbrev pub SharesLater : List (Vec ServedLine) → List (Vec ServedLine) → Type 0
SharesLater old new = AllZip (λ (a b : Vec ServedLine). AreServedLater a.items b.items) old new

-- shares that are empty, each with room for so many workers
abbrev pub HaveRoom : ℕ → List (Vec ServedLine) → Type 0
HaveRoom most shares = (w : ℕ) (share : Vec ServedLine) → slice_get shares w ≡ Some share → (share.items ≡ []) ×
    (most ≤ vec_capacity share)
