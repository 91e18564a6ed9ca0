-- What a sink has taken, and what it gives.
use Rattle.std.specs.Prelude.{◌≡◌, ℕ, ◌-◌, ◌*◌, ◌/◌, ◌<◌, zero, suc, List, [], ◌∷◌, ◌++◌, length, take, drop, Option}
use Rattle.std.specs.Prelude.{Some, None, Result, Ok, Err}
use Rattle.std.specs.Result.{result_err}
use Rattle.std.specs.List.{concat, fold}
use Rattle.law_model.specs.Common.{Start}
use Rattle.member_au4.specs.au4_pointer.PointerWord.{next_value, reading}
use Rattle.member_au4.specs.au4_pointer.StreamPart.{AreVcs}
use Rattle.member_au4.specs.declared.au4_pointer.au_frame.Action.{Action}
use Rattle.member_au4.specs.declared.au4_pointer.au_frame.Action.TheVariants.{Keep, Up, Down, New}
use Rattle.member_au4.specs.declared.au4_pointer.au_frame.AuFrame.{AuFrame}
use Rattle.member_au4.specs.declared.au4_pointer.pointer_sink.PointerWordFault.{PointerWordFault}

-- ---- what frames tell
-- the data of a frame
abbrev pub data_of : Action → AuFrame → List ℕ
data_of Keep frame = frame.body
data_of Up frame = drop 3 frame.body
data_of Down frame = frame.h3 ++ frame.body
data_of (New p) frame = frame.body

-- a number of VC-4s one behind another
abbrev pub pieces : ℕ → List ℕ → List (List ℕ)
pieces zero octets = []
pieces (suc n) octets = take 2349 octets ∷ pieces n (drop 2349 octets)

-- the VC-4s that are whole in the data of a part with a value
abbrev pub vcs_in : ℕ → List ℕ → List (List ℕ)
vcs_in value octets = pieces ((length octets - 3 * value) / 2349) (drop (3 * value) octets)

-- what frames tell: the next value, the value and the data of the last part, and the VC-4s that are whole in the parts
-- before it
pub record Reception : Type 0 where
  pub value : Option ℕ
  pub begin : ℕ
  pub octets : List ℕ
  pub before : List (List ℕ)

-- all VC-4s that frames give
abbrev pub given_by : Reception → List (List ℕ)
given_by r = r.before ++ vcs_in r.begin r.octets

-- the value, and 0 where there is none
abbrev pub value_or : Option ℕ → ℕ
value_or None = 0
value_or (Some value) = value

-- the next value behind a frame. Where there is none, no word says Up or Down
abbrev pub value_behind : Option ℕ → Action → Option ℕ
value_behind value Keep = value
value_behind value Up = Some (next_value (value_or value) Up)
value_behind value Down = Some (next_value (value_or value) Down)
value_behind value (New p) = Some p

-- with one frame more, as its word is read. A fault ends the part, and what comes behind is as if nothing had come
-- before
abbrev pub told : Reception → AuFrame → Result Action PointerWordFault → Reception
told r frame (Ok Keep) = record {
  value = value_behind r.value Keep;
  begin = r.begin;
  octets = r.octets ++ data_of Keep frame;
  before = r.before;
}
told r frame (Ok Up) = record {
  value = value_behind r.value Up;
  begin = r.begin;
  octets = r.octets ++ data_of Up frame;
  before = r.before;
}
told r frame (Ok Down) = record {
  value = value_behind r.value Down;
  begin = r.begin;
  octets = r.octets ++ data_of Down frame;
  before = r.before;
}
told r frame (Ok (New p)) = record {
  value = value_behind r.value (New p);
  begin = p;
  octets = data_of (New p) frame;
  before = given_by r;
}
told r frame (Err fault) = record { value = None; begin = 0; octets = []; before = given_by r }

-- with one frame more
abbrev pub receive : Reception → AuFrame → Reception
receive r frame = told r frame (reading r.value frame.word)

-- no frame tells anything
abbrev pub nothing : Reception
nothing = record { value = None; begin = 0; octets = []; before = [] }

-- what these frames tell
abbrev pub reception : List AuFrame → Reception
reception frames = fold receive nothing frames

-- the VC-4s that frames give
abbrev pub given : List AuFrame → List (List ℕ)
given frames = given_by (reception frames)

-- those that one frame more adds
abbrev pub added : List AuFrame → AuFrame → List (List ℕ)
added frames frame = drop (length (given frames)) (given (frames ++ frame ∷ []))

-- why a frame is refused behind others
abbrev pub word_fault : List AuFrame → AuFrame → Option PointerWordFault
word_fault frames frame = result_err (reading (reception frames).value frame.word)

-- ---- the sink
-- a sink: the next value, how many octets come before the first VC-4 of the part, and those of the VC-4 that isn't
-- whole
pub record Sink : Type 0 where
  pub value : Option ℕ
  pub lead : ℕ
  pub kept : List ℕ

-- of the data of a part the octets of whole VC-4s were given, and the others are kept
pub record Holds (lead : ℕ) (kept : List ℕ) (begin : ℕ) (octets : List ℕ) : Type 0 where
  pub ahead : lead ≡ 3 * begin - length octets
  pub few : length kept < 2349
  pub split : drop (3 * begin) octets ≡ concat (vcs_in begin octets) ++ kept

-- these frames were taken
pub record PointerSinkStands (sink : Sink) (frames : List AuFrame) : Type 0 where
  pub value : sink.value ≡ (reception frames).value
  pub holds : Holds sink.lead sink.kept (reception frames).begin (reception frames).octets

-- a sink before the data of a frame
abbrev pub due : Sink → Action → Sink
due sink Keep = sink
due sink Up = sink
due sink Down = sink
due sink (New p) = record { value = sink.value; lead = 3 * p; kept = [] }

-- octets of a part were taken: VC-4s that they completed were given, and the others are kept
pub record Gives {O : Type 0} (stands : O → Start → List (List ℕ) → Type 0) (before now : O) (was is : Sink)
    (octets : List ℕ) : Type 0 where
  pub vcs : List (List ℕ)
  pub size : AreVcs vcs
  pub gives : (start : Start) (given : List (List ℕ)) → stands before start given → stands now start (given ++ vcs)
  pub lead : is.lead ≡ was.lead - length octets
  pub split : was.kept ++ drop was.lead octets ≡ concat vcs ++ is.kept
