-- A text that is taken from a source in pieces and read, and why it stops a command.
use Rattle.std.proofs.Common.{◌≡◌, ℕ, ◌+◌, ◌<◌, List, [], ◌++◌, length, length-append, append_assoc, arith, Option}
use Rattle.std.proofs.Common.{None, Some, Result, refl, sym, ap, ◌∙◌, IfSome, ◌≢◌, ◌⊎◌, Ok, Err, ap₂, subst, inl, inr}
use Rattle.std.specs.Io.KnownBytes.{prepend_known, IsAtEnd}
use Rattle.law_model.specs.Common.{one_more, longest_input}
use Rattle.command_parts.specs.Common.{Answer, Lent, lent, HasRead, StopsReading, StopsFor, StopsTaking, IsTaken}
use Rattle.command_parts.specs.Common.{answer_told, StopsAt, Follows, ReadsScript, Task, refuses, reads, IsCommand}
use Rattle.command_parts.specs.Common.{Kept, IsTold, Meets, Ends, short, why_of, fault_text, IsRefusedFor, HasScript}
use Rattle.command_parts.specs.Common.{told_of, answer_of, script_answer, IsRefusedAs, note_of}
use Rattle.command_parts.specs.declared.stop_and_status.Refusal.{Refusal}
use Rattle.command_parts.specs.declared.stop_and_status.Stop.{Stop}
use Rattle.command_parts.specs.declared.stop_and_status.Stop.TheVariants.{Read, TooLong, Refused, Write, Memory}
use Rattle.command_parts.specs.TextInPieces.{HasNumbersLeft}
use Rattle.text_scripts.specs.declared.script_read.script_reader.ScriptReader.{ScriptReader}
use Rattle.law_model.specs.declared.script_types.Script.{Script}
use Rattle.text_scripts.specs.declared.script_read.script_fault.ScriptFault.{ScriptFault}
use Rattle.text_scripts.specs.declared.script_read.script_fault.ScriptFault.TheVariants.{Line, Slip, Spread, Lag}
use Rattle.command_parts.specs.declared.stop_and_status.Fault.{Fault}
use Rattle.text_scripts.specs.script_read.ScriptInPieces as script
use Rattle.text_scripts.specs.declared.script_read.script_fault.ScriptFault.TheVariants as fault

-- ---- A text that a source gives piece by piece.
pub prepended : (all piece : List ℕ) (known : Option (List ℕ)) →
    prepend_known all (prepend_known piece known) ≡ prepend_known (all ++ piece) known
prepended all piece None = refl
prepended all piece (Some octets) = ap Some (sym (append_assoc all piece octets))

pub prepended_none : (known : Option (List ℕ)) → known ≡ prepend_known [] known
prepended_none None = refl
prepended_none (Some octets) = refl

module _ {S : Type 0} (left : S → Option (List ℕ)) (faults : S → ℕ) where
  -- nothing was taken yet
  pub taken_none : (start : S) → IsTaken left faults start start [] longest_input
  taken_none start = record { given = prepended_none (left start); quiet = refl; size = refl }

  -- a piece more
  pub taken_more : (start old new : S) (all piece : List ℕ) (room n later : ℕ) →
      IsTaken left faults start old all room → left old ≡ prepend_known piece (left new) →
      faults new ≡ faults old → length piece ≡ n → later + n ≡ room → IsTaken left faults start new (all ++ piece) later
  taken_more start old new all piece room n later taken gives quiet long fits = record {
    given = taken.given ∙ ap (prepend_known all) gives ∙ prepended all piece (left new);
    quiet = quiet ∙ taken.quiet;
    size = omega (arith, taken.size, length-append all piece, long, fits);
  }

  -- all of it
  pub taken_all : (start old : S) (all : List ℕ) (room : ℕ) → IsTaken left faults start old all room →
      IsAtEnd (left old) → HasRead (lent left faults start old) all
  taken_all start old all room taken end = record {
    given = record { given = taken.given; end = end };
    fits = omega (arith, taken.size);
    quiet = taken.quiet;
  }

  long_more : (all : List ℕ) (room : ℕ) (known old : Option (List ℕ)) → old ≡ prepend_known all known →
      length all + room ≡ longest_input → IfSome known (λ text. room < length text) →
      IfSome old (λ text. longest_input < length text)
  long_more all room None None is size long = tt
  long_more all room None (Some octets) is size long = absurd cc
  long_more all room (Some text) None is size long = absurd cc
  long_more all room (Some text) (Some octets) is size long =
      let same : octets ≡ all ++ text = cc in
      omega (arith, size, long, ap (λ (t : List ℕ). length t) same, length-append all text)

  -- what stopped the taking stops the reading
  pub stops_taking : (start old new : S) (all : List ℕ) (room : ℕ) (answer : List ℕ → Answer) (stop : Stop) →
      IsTaken left faults start old all room → StopsTaking (lent left faults old new) room stop →
      StopsReading (lent left faults start new) answer stop
  stops_taking start old new all room answer Read taken stops = stops ∙ ap one_more taken.quiet
  stops_taking start old new all room answer TooLong taken stops = inl (record {
    much = long_more all room (left old) (left start) taken.given taken.size stops.0;
    quiet = stops.1 ∙ taken.quiet;
  })
  stops_taking start old new all room answer (Refused it) taken stops = absurd stops
  stops_taking start old new all room answer Write taken stops = absurd stops
  stops_taking start old new all room answer Memory taken stops = stops ∙ taken.quiet

-- what stops a reader of a text that was read to its end
pub stops_read : {S : Type 0} (source : Lent S) (answer : List ℕ → Answer) (text : List ℕ) (stop : Stop) →
    HasRead source text → StopsFor (answer text) stop → StopsReading source answer stop
stops_read source answer text Read read stops = absurd stops
stops_read source answer text TooLong read stops = inr (text, read, stops)
stops_read source answer text (Refused it) read stops = (text, read, stops)
stops_read source answer text Write read stops = absurd stops
stops_read source answer text Memory read stops = read.quiet

pub stops_told : {A : Type 0} (writes : A → Answer) (said : Result A (Refusal × List ℕ)) (stop : Stop) →
    StopsAt said stop → StopsFor (answer_told writes said) stop
stops_told writes said Read stops = stops
stops_told writes said TooLong stops = absurd stops
stops_told writes said (Refused it) stops = ap (answer_told writes) stops
stops_told writes said Write stops = stops
stops_told writes said Memory stops = tt

-- ---- what was taken, all of it read but a rest
module _ {R S : Type 0} (Reads : R → List ℕ → Type 0) (left : S → Option (List ℕ)) (faults : S → ℕ) where
  pub record IsReading (start now : S) (reader : R) (rest : List ℕ) (room : ℕ) : Type 0 where
    pub all : List ℕ
    pub taken : IsTaken left faults start now all room
    pub follows : Follows Reads reader rest all

  pub reading_none : (start : S) (reader : R) (rest : List ℕ) → Reads reader [] → rest ≡ [] →
      IsReading start start reader rest longest_input
  reading_none start reader rest stands none = record {
    all = [];
    taken = taken_none left faults start;
    follows = record { text = []; is = sym none; reads = stands };
  }

  -- the rest grows by a piece
  pub reading_more : (start old new : S) (reader : R) (rest piece more : List ℕ) (room n later : ℕ) →
      IsReading start old reader rest room → left old ≡ prepend_known piece (left new) → faults new ≡ faults old →
      length piece ≡ n → later + n ≡ room → more ≡ rest ++ piece → IsReading start new reader more later
  reading_more start old new reader rest piece more room n later was gives quiet long fits is = record {
    all = was.all ++ piece;
    taken = taken_more left faults start old new was.all piece room n later was.taken gives quiet long fits;
    follows = record {
      text = was.follows.text;
      is = ap (λ (t : List ℕ). t ++ piece) was.follows.is ∙ append_assoc was.follows.text rest piece
          ∙ ap (λ (t : List ℕ). was.follows.text ++ t) (sym is);
      reads = was.follows.reads;
    };
  }

  pub reading_room : (start now : S) (reader : R) (rest : List ℕ) (room : ℕ) → IsReading start now reader rest room →
      HasNumbersLeft Reads reader rest
  reading_room start now reader rest room is =
      record { all = is.all; follows = is.follows; fits = omega (arith, is.taken.size) }

-- ---- A reader of a script as any reader of a text in pieces.
pub as_script : (reader : ScriptReader) (rest all : List ℕ) → Follows ReadsScript reader rest all →
    script.Follows reader rest all
as_script reader rest all follows = record { text = follows.text; is = follows.is; stands = follows.reads.stands }

pub room_for : (reader : ScriptReader) (rest : List ℕ) → HasNumbersLeft ReadsScript reader rest →
    script.HasNumbersLeft reader (length rest)
room_for reader rest has =
    let it = has.follows in
    omega (arith, has.fits, it.reads.stands.count, ap (λ (t : List ℕ). length t) it.is, length-append it.text rest)

-- ---- Why a text stops a command, and what it answers.
-- ---- why a text says nothing
-- a cause with its note
pub stops_as : {A : Type 0} (said : Result A (Refusal × List ℕ)) (why : Refusal) (note : List ℕ) (stop : Stop) →
    said ≡ Err (why, note) → IsRefusedAs why note stop → StopsAt said stop
stops_as said why note Read says is = is
stops_as said why note TooLong says is = is
stops_as said why note (Refused it) says is =
    says ∙ ap₂ (λ (w : Refusal) (n : List ℕ). Err (w, n)) (sym is.0) (sym is.1)
stops_as said why note Write says is = is
stops_as said why note Memory says is = tt

-- want of memory
pub stops_short : {A : Type 0} (said : Result A (Refusal × List ℕ)) (stop : Stop) → stop ≡ Memory → StopsAt said stop
stops_short said stop is = let P : Stop → Type 0 = λ stop. StopsAt said stop in subst P (sym is) tt

-- ---- a text that says no script
memory_or : (own : ScriptFault) → (own ≡ fault.Memory) ⊎ (own ≢ fault.Memory)
memory_or (Line n wrong) = inr (λ e. cc)
memory_or (Slip l w x) = inr (λ e. cc)
memory_or (Spread a b c d) = inr (λ e. cc)
memory_or (Lag a b x y) = inr (λ e. cc)
memory_or fault.Memory = inl refl

pub stops_script : (of : Result Script ScriptFault) (own : ScriptFault) (stop : Stop) →
    (own ≡ fault.Memory) ⊎ (of ≡ Err own) → (own ≢ fault.Memory → IsRefusedFor own stop) →
    (own ≡ fault.Memory → stop ≡ Memory) → StopsAt (told_of of) stop
stops_script of own stop either for lack = elim (memory_or own) [
  | inl e ↦ stops_short (told_of of) stop (lack e)
  | inr other ↦ elim either [
    | inl e ↦ absurd (other e)
    | inr says ↦ stops_as (told_of of) (why_of own) (fault_text own) stop (ap told_of says) (for other)
  ]
]

pub said-script : (of : Result Script ScriptFault) (script : Script) → told_of of ≡ Ok script → of ≡ Ok script
said-script (Ok own) script says = let same : own ≡ script = cc in ap Ok same
said-script (Err own) script says = absurd cc

-- ---- a script is answered
pub meets-script : {S : Type 0} (source : Lent S) (writes : Script → Answer) (script : Script) →
    HasScript source script → Meets source (reads (script_answer writes)) (writes script)
meets-script source writes script has = (has.text, has.read, ap (answer_of writes) has.says)

-- ---- memory was short before anything was read
pub ends-no-memory : {S K E : Type 0} (source : Lent S) (out : Lent K) (notes : Lent E) (task : Task) (status : ℕ) →
    IsCommand task → status ≡ 7 → Kept source → Kept out → IsTold notes (note_of Memory) →
    Ends source out notes task status
ends-no-memory source out notes task status command at kept nothing told =
    short at (record {
      command = command;
      quiet = ap source.faults kept;
      unread = λ never. kept;
      nothing = nothing;
      told = told;
    })

-- a line that is refused
pub refused-line : {S : Type 0} (source : Lent S) (answer : List ℕ → Answer) (text : List ℕ) (it : Fault)
    (why : Refusal) (note : List ℕ) → HasRead source text
    → it.why ≡ why → it.note.items ≡ note → answer text ≡ refuses why note → StopsReading source answer (Refused it)
refused-line source answer text it why note read a b says = (text, read, says ∙ ap₂ refuses (sym a) (sym b))
