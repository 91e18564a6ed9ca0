-- A walk in numbers: the counts that its events raise, and the order in which the causes of a stall are tried. A line
-- enters by two
-- numbers alone: how many cells its carries give, and how many rows its cells decide.
use Rattle.std.specs.Prelude.{ℕ, zero, suc, ◌+◌, ◌-◌, ◌*◌, ◌/◌, ◌%◌, ◌&&◌, ◌==◌, nat_le, nat_lt, min, Bool, List, []}
use Rattle.std.specs.Prelude.{◌∷◌, ◌++◌, map, length, replicate, slice_get, slice_set, Option, Some, None}
use Rattle.std.specs.Prelude.{if◌then◌else◌, flat_map}
use Rattle.law_model.specs.declared.script_types.Item.{Item}
use Rattle.law_model.specs.declared.script_types.ItemKind.{ItemKind}
use Rattle.law_model.specs.declared.script_types.ItemKind.TheVariants.{Frame, Add, Remove}
use Rattle.law_model.specs.declared.script_types.EventLine.{EventLine}
use Rattle.law_model.specs.declared.script_types.EventLine.TheVariants as script_line
use Rattle.law_model.specs.declared.walk_events.Event.{Event}
use Rattle.law_model.specs.declared.walk_events.Event.TheVariants.{Accept, Command, Tick, Carry, Back, Take}
use Rattle.law_model.specs.declared.walk_events.StallCause.{StallCause}
use Rattle.law_model.specs.declared.walk_events.StallCause.TheVariants.{Done, NotDue, Held, TxFull, BackMissing, Empty, RxFull}
use Rattle.law_model.specs.declared.walk_events.StallCause.TheVariants.{BackEmpty, BackFull, Waiting}
use Rattle.law_model.specs.session.Scenario.{packets_in, steps_in}

-- ---- what a walk is given
-- a line in numbers: its delay; how many cells its first carries give; how many numbers below the ticks its first cells
-- decide
pub record LinePath : Type 0 where
  pub delay : ℕ
  pub given : ℕ → ℕ
  pub decided : ℕ → ℕ

-- what lands once a number of ticks is made: a frame, or a command
pub data Due : Type 0 where
  frame_due : ℕ → Due
  command_due : ℕ → Due

abbrev pub due_of : ℕ → ItemKind → Due
due_of due (Frame octets) = frame_due due
due_of due (Add line) = command_due due
due_of due (Remove line) = command_due due

abbrev pub dues_of : List Item → List Due
dues_of items = map (λ item. due_of item.due item.kind) items

-- how many ticks there are; the cells that a receive ring holds; the lag in packets; the items in their order; the
-- lines
pub record Plan : Type 0 where
  pub ticks : ℕ
  pub ring : ℕ
  pub lag : ℕ
  pub items : List Due
  pub paths : List LinePath

-- the due ticks of the frames, and of the commands
unfoldable pub frame_dues : List Due → List ℕ
frame_dues [] = []
frame_dues (frame_due due ∷ items) = due ∷ frame_dues items
frame_dues (command_due due ∷ items) = frame_dues items

unfoldable pub command_dues : List Due → List ℕ
command_dues [] = []
command_dues (frame_due due ∷ items) = command_dues items
command_dues (command_due due ∷ items) = due ∷ command_dues items

-- ---- the counts
-- the carries that a line has made, and its cells that were popped
pub record LineCounts : Type 0 where
  pub carried : ℕ
  pub popped : ℕ

-- ticks made; frames and commands that have landed; each line; rows taken; return packets that came to the source
pub record Counts : Type 0 where
  pub ticks : ℕ
  pub frames : ℕ
  pub commands : ℕ
  pub lines : List LineCounts
  pub rows : ℕ
  pub backs : ℕ

-- ---- what the rings hold
abbrev pub in_send : ℕ → ℕ → LineCounts → ℕ
in_send total ticks line = ticks - min line.carried total

abbrev pub in_receive : LinePath → LineCounts → ℕ
in_receive path line = path.given line.carried - line.popped

abbrev pub in_return : Counts → ℕ
in_return s = packets_in s.rows - s.backs

-- how many decision steps of some ticks took a return packet
abbrev pub used_in : ℕ → ℕ → ℕ
used_in lag ticks = steps_in ticks - lag

abbrev pub in_inbox : Plan → Counts → ℕ
in_inbox plan s = s.backs - used_in plan.lag s.ticks

-- ---- what an event gives: the next counts, and why it stalled, where it did
pub record Step : Type 0 where
  pub counts : Counts
  pub cause : Option StallCause

abbrev pub moved : Counts → Step
moved s = record { counts = s; cause = None }

abbrev pub stalled : Counts → StallCause → Step
stalled s cause = record { counts = s; cause = Some cause }

-- ---- Accept, Command
abbrev pub land_due : ℕ → Option ℕ → Counts → Counts → Step
land_due ticks None s next = stalled s Done
land_due ticks (Some due) s next = if nat_lt ticks due then stalled s (NotDue due) else moved next

abbrev pub accept : Plan → Counts → Step
accept plan s = land_due s.ticks (slice_get (frame_dues plan.items) s.frames) s (record s { frames = s.frames + 1 })

abbrev pub command : Plan → Counts → Step
command plan s = land_due s.ticks (slice_get (command_dues plan.items) s.commands) s
    (record s { commands = s.commands + 1 })

-- ---- Tick
-- the least item that is due and hasn't landed, where a frames and b commands have; the items are numbered from i
unfoldable pub held : ℕ → ℕ → ℕ → ℕ → List Due → Option ℕ
held ticks a b i [] = None
held ticks zero b i (frame_due due ∷ items) = if nat_le due ticks then Some i else held ticks zero b (suc i) items
held ticks (suc a) b i (frame_due due ∷ items) = held ticks a b (suc i) items
held ticks a zero i (command_due due ∷ items) = if nat_le due ticks then Some i else held ticks a zero (suc i) items
held ticks a (suc b) i (command_due due ∷ items) = held ticks a b (suc i) items

-- the first line, numbered from m, whose send ring holds 32 containers
unfoldable pub full : ℕ → ℕ → ℕ → List LineCounts → Option ℕ
full total ticks m [] = None
full total ticks m (line ∷ lines) =
    if nat_le 32 (in_send total ticks line) then Some m else full total ticks (suc m) lines

-- a return packet is needed, and the inbox is empty
abbrev pub is_missing : Plan → Counts → Bool
is_missing plan s = nat_le (16 * plan.lag + 8) s.ticks && s.ticks % 16 == 8 && nat_le (in_inbox plan s) 0

abbrev pub tick_full : Option ℕ → Plan → Counts → Step
tick_full (Some line) plan s = stalled s (TxFull line)
tick_full None plan s =
    if is_missing plan s then stalled s (BackMissing (s.ticks / 16 - plan.lag)) else moved
    (record s { ticks = s.ticks + 1 })

abbrev pub tick_held : Option ℕ → Plan → Counts → Step
tick_held (Some item) plan s = stalled s (Held item)
tick_held None plan s = tick_full (full plan.ticks s.ticks 0 s.lines) plan s

abbrev pub tick : Plan → Counts → Step
tick plan s =
    if nat_le plan.ticks s.ticks then stalled s Done else tick_held (held s.ticks s.frames s.commands 0 plan.items) plan
    s

-- ---- Carry
abbrev pub carry_on : Plan → Counts → ℕ → LinePath → LineCounts → Step
carry_on plan s m path line =
    if nat_lt (plan.ticks + path.delay) line.carried then stalled s Done
    else (if nat_lt line.carried plan.ticks && nat_le (in_send plan.ticks s.ticks line) 0 then stalled s (Empty m)
    else (if nat_le plan.ring (in_receive path line) then stalled s (RxFull m)
    else moved (record s { lines = slice_set s.lines m (record line { carried = line.carried + 1 }) })))

abbrev pub carry_at : Plan → Counts → ℕ → Option LinePath → Option LineCounts → Step
carry_at plan s m (Some path) (Some line) = carry_on plan s m path line
carry_at plan s m (Some path) None = stalled s Done
carry_at plan s m None line = stalled s Done

abbrev pub carry : Plan → Counts → ℕ → Step
carry plan s m = carry_at plan s m (slice_get plan.paths m) (slice_get s.lines m)

-- ---- Back
abbrev pub back : Counts → Step
back s = if nat_le (in_return s) 0 then stalled s BackEmpty else moved (record s { backs = s.backs + 1 })

-- ---- Take
-- the cells of a line that were popped once they decide row t, or once as many more were as the ring holds
unfoldable pub pop : ℕ → LinePath → ℕ → ℕ → ℕ
pop zero path t y = y
pop (suc k) path t y = if nat_le (path.decided y) t then pop k path t (suc y) else y

abbrev pub popped_line : LinePath → ℕ → LineCounts → LineCounts
popped_line path t line = record line { popped = pop (in_receive path line) path t line.popped }

pub record Popped : Type 0 where
  pub lines : List LineCounts
  pub waiting : Option ℕ

abbrev pub with_line : LineCounts → Popped → Popped
with_line line popped = record { lines = line ∷ popped.lines; waiting = popped.waiting }

-- line by line, numbered from m, up to the first that doesn't decide row t
unfoldable pub pop_lines : ℕ → ℕ → List LinePath → List LineCounts → Popped
pop_lines t m [] lines = record { lines = lines; waiting = None }
pop_lines t m (path ∷ paths) [] = record { lines = []; waiting = None }
pop_lines t m (path ∷ paths) (line ∷ lines) =
    if nat_le (path.decided (popped_line path t line).popped) t
    then record { lines = popped_line path t line ∷ lines; waiting = Some m }
    else with_line (popped_line path t line) (pop_lines t (suc m) paths lines)

abbrev pub take_popped : Counts → List LineCounts → Option ℕ → Step
take_popped s lines (Some line) = stalled (record s { lines = lines }) (Waiting line)
take_popped s lines None = moved (record s { lines = lines; rows = s.rows + 1 })

-- the row ends a packet, and the return ring holds 4
abbrev pub is_back_full : Counts → Bool
is_back_full s = nat_le 23 s.rows && s.rows % 16 == 7 && nat_le 4 (in_return s)

abbrev pub take_row : Plan → Counts → Step
take_row plan s =
    if nat_le plan.ticks s.rows then stalled s Done
    else (if is_back_full s then stalled s BackFull
    else take_popped s (pop_lines s.rows 0 plan.paths s.lines).lines (pop_lines s.rows 0 plan.paths s.lines).waiting)

-- ---- an event, and a list of events
abbrev pub step : Plan → Counts → Event → Step
step plan s Accept = accept plan s
step plan s Command = command plan s
step plan s Tick = tick plan s
step plan s (Carry m) = carry plan s m
step plan s Back = back s
step plan s Take = take_row plan s

unfoldable pub run : Plan → Counts → List Event → Counts
run plan s [] = s
run plan s (event ∷ events) = run plan (step plan s event).counts events

abbrev pub begin : Plan → Counts
begin plan = record {
  ticks = 0;
  frames = 0;
  commands = 0;
  lines = replicate (length plan.paths) (record { carried = 0; popped = 0 });
  rows = 0;
  backs = 0;
}

-- ---- rounds
unfoldable pub carries_from : ℕ → List LinePath → List Event
carries_from m [] = Back ∷ Take ∷ []
carries_from m (path ∷ paths) = Carry m ∷ carries_from (suc m) paths

-- frames and commands are tried once more than there are items, so until they stall
abbrev pub round : Plan → List Event
round plan =
    replicate (suc (length plan.items)) Accept
    ++ (replicate (suc (length plan.items)) Command ++ Tick ∷ carries_from 0 plan.paths)

-- at most a number of rounds, until all rows are taken
unfoldable pub drain : ℕ → Plan → Counts → Counts
drain zero plan s = s
drain (suc k) plan s = if nat_le plan.ticks s.rows then s else drain k plan (run plan s (round plan))

unfoldable pub sum_delays : List LinePath → ℕ
sum_delays [] = 0
sum_delays (path ∷ paths) = path.delay + sum_delays paths

-- how many rounds are enough
abbrev pub bound : Plan → ℕ
bound plan =
    (2 * length plan.paths + 3) * plan.ticks + sum_delays plan.paths + 2 * length plan.paths + length plan.items

-- ---- the event lines of a script
abbrev pub run_line : Plan → Counts → EventLine → Counts
run_line plan s (script_line.Client n) = run plan s (replicate n Accept)
run_line plan s (script_line.Operator n) = run plan s (replicate n Command)
run_line plan s (script_line.Tick n) = run plan s (replicate n Tick)
run_line plan s (script_line.Carry m n) = run plan s (replicate n (Carry m))
run_line plan s (script_line.Back n) = run plan s (replicate n Back)
run_line plan s (script_line.Take n) = run plan s (replicate n Take)
run_line plan s (script_line.Round n) = run plan s (flat_map (λ (tries : List Event). tries) (replicate n (round plan)))
run_line plan s script_line.Drain = drain (bound plan) plan s

unfoldable pub run_lines : Plan → Counts → List EventLine → Counts
run_lines plan s [] = s
run_lines plan s (line ∷ lines) = run_lines plan (run_line plan s line) lines

-- the counts after a walk of these event lines: where there are none, it drains
abbrev pub walked : Plan → List EventLine → Counts
walked plan [] = drain (bound plan) plan (begin plan)
walked plan (line ∷ lines) = run_lines plan (begin plan) (line ∷ lines)
