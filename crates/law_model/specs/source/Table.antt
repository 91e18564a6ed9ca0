-- G.7042, the source's table of lines: what a decision step does with a return packet. That one change at a time is
-- out, and that RS-Ack echoes it, are this project's own.
use Rattle.std.specs.Prelude.{ℕ, ◌+◌, ◌/◌, ◌%◌, ◌==◌, ◌&&◌, not, Bool, true, false, if◌then◌else◌, List, [], ◌∷◌, ◌++◌}
use Rattle.std.specs.Prelude.{map, filter, Option, Some, None, option_map, slice_get, slice_index_or, replicate}
use Rattle.law_model.specs.declared.lcas_states.Standing.{Standing}
use Rattle.law_model.specs.declared.lcas_states.Standing.TheVariants.{Add as adding, Norm as normal, Dnu as unused}
use Rattle.law_model.specs.declared.lcas_states.Member.{Member}
use Rattle.law_model.specs.declared.lcas_states.Command.{Command}
use Rattle.law_model.specs.declared.lcas_states.Command.TheVariants.{Add as add, Remove as remove}
use Rattle.law_model.specs.Limits.{most_lines}

abbrev pub member_of : ℕ → Standing → Member
member_of line standing = record { line = line; standing = standing }

-- the order of the lines: the place of a line is its SQ; the line in REMOVE; the count of changes, and whether the last
-- one is
-- acknowledged; for an SQ the status that is kept: OK, FAIL or none. A line that is nowhere is IDLE
pub record Table : Type 0 where
  pub order : List Member
  pub leaving : Option ℕ
  pub count : ℕ
  pub acknowledged : Bool
  pub statuses : List (Option Bool)

abbrev pub is_add : Standing → Bool
is_add adding = true
is_add normal = false
is_add unused = false

abbrev pub is_norm : Standing → Bool
is_norm adding = false
is_norm normal = true
is_norm unused = false

abbrev pub is_adding : Member → Bool
is_adding member = is_add member.standing

abbrev pub is_normal : Member → Bool
is_normal member = is_norm member.standing

abbrev pub is_ok : Option Bool → Bool
is_ok None = false
is_ok (Some ok) = ok

abbrev pub is_fail : Option Bool → Bool
is_fail None = false
is_fail (Some ok) = not ok

abbrev pub in_use : Member → Member
in_use member = record { line = member.line; standing = normal }

-- what a return packet says: RS-Ack, and eight statuses, where OK is true
pub record Told : Type 0 where
  pub rs_ack : ℕ
  pub oks : List Bool

-- the status that is kept for an SQ
abbrev pub kept_in : List (Option Bool) → ℕ → Option Bool
kept_in statuses sq = slice_index_or statuses sq None

abbrev pub kept_of : Table → ℕ → Option Bool
kept_of table = kept_in table.statuses

-- no status is kept for any SQ
unfoldable pub none_kept : List (Option Bool)
none_kept = replicate most_lines None

-- before the first step
abbrev pub first_table : Table
first_table = record { order = []; leaving = None; count = 0; acknowledged = true; statuses = none_kept }

-- 1. A return packet for this change acknowledges it. Its eight statuses are for SQ 8 group to 8 group + 7
abbrev pub is_for : ℕ → Option Told → Bool
is_for count None = false
is_for count (Some told) = told.rs_ack == count % 2

abbrev pub oks_of : Option Told → List Bool
oks_of None = []
oks_of (Some told) = told.oks

unfoldable pub keep : ℕ → List Bool → ℕ → List (Option Bool) → List (Option Bool)
keep group oks sq [] = []
keep group oks sq (old ∷ statuses) =
    (if sq / 8 == group then slice_get oks (sq % 8) else old) ∷ keep group oks (sq + 1) statuses

abbrev pub acknowledged_by : ℕ → Option Told → Table → Table
acknowledged_by group told table = record {
  order = table.order;
  leaving = None;
  count = table.count;
  acknowledged = true;
  statuses = keep group (oks_of told) 0 table.statuses;
}

abbrev pub heard : ℕ → Option Told → Table → Table
heard group told table = if is_for table.count told then acknowledged_by group told table else table

-- 2. While the first ADD line has OK, it becomes NORM
unfoldable pub admit : (ℕ → Option Bool) → ℕ → List Member → List Member
admit kept sq [] = []
admit kept sq (member ∷ order) =
    if not (is_adding member) then member ∷ admit kept (sq + 1) order
    else if is_ok (kept sq) then in_use member ∷ admit kept (sq + 1) order
    else member ∷ order

-- 3. A NORM line with FAIL becomes DNU, a DNU line with OK becomes NORM
abbrev pub turn : Option Bool → Standing → Standing
turn None standing = standing
turn (Some ok) adding = adding
turn (Some ok) normal = if ok then normal else unused
turn (Some ok) unused = if ok then normal else unused

unfoldable pub turned : (ℕ → Option Bool) → ℕ → List Member → List Member
turned kept sq [] = []
turned kept sq (member ∷ order) =
    record { line = member.line; standing = turn (kept sq) member.standing } ∷ turned kept (sq + 1) order

abbrev pub told_on : Table → Table
told_on table = record {
  order = turned (kept_of table) 0 (admit (kept_of table) 0 table.order);
  leaving = table.leaving;
  count = table.count;
  acknowledged = table.acknowledged;
  statuses = table.statuses;
}

-- 4. A change: the count grows, and nothing is known of the lines until it is acknowledged
abbrev pub changed : List Member → Option ℕ → Table → Table
changed order leaving table = record {
  order = order;
  leaving = leaving;
  count = table.count + 1;
  acknowledged = false;
  statuses = none_kept;
}

-- (a) a command
abbrev pub carried_out : Command → Table → Table
carried_out (add line) table = changed (table.order ++ record { line = line; standing = adding } ∷ []) table.leaving
    table
carried_out (remove line) table = changed (filter (λ member. not (member.line == line)) table.order) (Some line) table

-- (b) the first ADD line has FAIL, and a later one OK: the first such later line goes before it
unfoldable pub take_out : (ℕ → Option Bool) → ℕ → List Member → Option (Member × List Member)
take_out kept sq [] = None
take_out kept sq (member ∷ order) =
    if is_adding member && is_ok (kept sq) then Some (member, order)
    else option_map (λ found. (found.0, member ∷ found.1)) (take_out kept (sq + 1) order)

unfoldable pub exchange : (ℕ → Option Bool) → ℕ → List Member → Option (List Member)
exchange kept sq [] = None
exchange kept sq (member ∷ order) =
    if not (is_adding member) then option_map (λ rest. member ∷ rest) (exchange kept (sq + 1) order)
    else if is_fail (kept sq) then option_map (λ found. found.0 ∷ member ∷ found.1) (take_out kept (sq + 1) order)
    else None

abbrev pub exchanged : Option (List Member) → Table → Table
exchanged None table = table
exchanged (Some order) table = changed order table.leaving table

-- the lines that carry payload, in the order of SQ
abbrev pub active : Table → List ℕ
active table = map (λ member. member.line) (filter is_normal table.order)
