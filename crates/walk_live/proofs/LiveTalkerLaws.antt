-- A conversation over a live text by what was read and answered: one line more, its reply, and why it stops.
use Rattle.std.proofs.Common.{◌≡◌, ◌∙◌, ℕ, Bool, true, false, List, [], ◌∷◌, ◌++◌, ap, sym, subst, refl, append-nil}
use Rattle.std.proofs.Common.{Option, Some, None, Ok, IfSome, is_some}
use Rattle.octet_io.specs.declared.source_and_sink.Failed.{Failed}
use Rattle.text_got.specs.TextSoFar.{Holds}
use Rattle.text_got.proofs.WaitingTextInBlockLaws.{Holds-waits}
use Rattle.command_parts.specs.declared.stop_and_status.Refusal.{Refusal}
use Rattle.command_parts.specs.declared.stop_and_status.Stop.{Stop}
use Rattle.command_parts.specs.declared.stop_and_status.Stop.TheVariants as stop
use Rattle.command_parts.specs.Common.{IsRefusedAs}
use Rattle.command_parts.specs.Dialogue.{Dialogue, Heard, Reply, heard_more, last_reply, reply_to}
use Rattle.command_parts.specs.Replies.{HasReplied, StopsReply}
use Rattle.walk_live.specs.declared.asked.Asked.{Asked}
use Rattle.walk_live.specs.LiveTexts.{FaultNote, LiveText, reply_by}
use Rattle.walk_live.specs.Answering.{CanBeThere, IsLive, IsQuiet, IsTalking, IsThere, IsThereBy, StopsReader}

pub record HasSome {X : Type 0} (found : Option X) : Type 0 where
  pub some : X
  pub is : found ≡ Some some

pub begun_some : {X : Type 0} (found : Option X) → is_some found ≡ true → HasSome found
begun_some None is = absurd cc
begun_some (Some x) is = record { some = x; is = refl }

pub some_is : {X : Type 0} (P : X → Type 0) (found : Option X) (x : X) → found ≡ Some x → IfSome found P → P x
some_is {X = X} P found x is = subst (λ (o : Option X). IfSome o P → P x) (sym is) (λ p. p)

pub none_some : {X : Type 0} (found : Option X) → is_some found ≡ false → found ≡ None
none_some None is = refl
none_some (Some x) is = absurd cc

-- ---- what answers
module _ {W R : Type 0} (HasAnswered : W → Asked → List (List ℕ) → Type 0) (Waits : R → List (List ℕ) → Type 0) where
  pub can_be : (own : Option W) (reader : R) (asked : Asked) (ls : List (List ℕ)) (said : List ℕ) (begun : Bool) →
      IsThereBy HasAnswered own asked ls said begun → (begun ≡ false → Waits reader ls) →
      CanBeThere HasAnswered Waits own reader asked ls
  can_be None reader asked ls said false has waits = waits refl
  can_be None reader asked ls said true has waits = absurd has
  can_be (Some own) reader asked ls said false has waits = absurd (let none = has.0 in cc)
  can_be (Some own) reader asked ls said true has waits = has

module _ {W : Type 0} (HasAnswered : W → Asked → List (List ℕ) → Type 0) where
  pub answers_by : (own : Option W) (some : W) (asked : Asked) (ls : List (List ℕ)) → own ≡ Some some →
      IsThere HasAnswered own asked ls → HasAnswered some asked ls
  answers_by own some asked ls is = subst (λ (o : Option W). IsThere HasAnswered o asked ls → HasAnswered some asked ls)
      (sym is) (λ has. has)

  pub not_missing : (own : Option W) (asked : Asked) (ls : List (List ℕ)) → own ≡ None → IsThere HasAnswered own asked ls → ⊥
  not_missing own asked ls none has = subst (λ (o : Option W). IsThere HasAnswered o asked ls) none has

  -- ---- where it stands
  module _ {R : Type 0} (text : LiveText) (HasRead : R → List (List ℕ) → Type 0) where
    pub reply_is : (asked : Asked) (reader : R) (own : Option W) (heard : Heard) (line : List ℕ) →
        IsTalking text HasRead HasAnswered asked reader own heard →
        reply_to heard line ≡ reply_by (text.fault heard.lines line) (text.answer asked heard.lines line)
    reply_is asked reader own heard line is = ap (λ (d : Dialogue). d.reply heard.lines line) is.dialogue

    pub last_is : (asked : Asked) (reader : R) (own : Option W) (heard : Heard) →
        IsTalking text HasRead HasAnswered asked reader own heard →
        last_reply heard ≡ reply_by (text.missing heard.lines) (text.last heard.lines)
    last_is asked reader own heard is = ap (λ (d : Dialogue). d.last heard.lines) is.dialogue

    pub reply_fine : (asked : Asked) (reader : R) (own : Option W) (heard : Heard) (line : List ℕ) →
        IsTalking text HasRead HasAnswered asked reader own heard → text.fault heard.lines line ≡ None →
        reply_to heard line ≡ Ok (text.answer asked heard.lines line)
    reply_fine asked reader own heard line is fine =
        reply_is asked reader own heard line is
        ∙ ap (λ (note : FaultNote). reply_by note (text.answer asked heard.lines line)) fine

    pub talks_on : (asked : Asked) (reader later : R) (own : Option W) (now : W) (heard : Heard) (line given : List ℕ) →
        IsTalking text HasRead HasAnswered asked reader own heard → HasRead later (heard.lines ++ line ∷ []) →
        text.begun (heard.lines ++ line ∷ []) ≡ true → HasAnswered now asked (heard.lines ++ line ∷ []) →
        IsTalking text HasRead HasAnswered asked later (Some now) (heard_more heard line given)
    talks_on asked reader later own now heard line given is read begun has = record {
      dialogue = is.dialogue;
      read = read;
      answers = subst (IsThereBy HasAnswered (Some now) asked (heard.lines ++ line ∷ []) (heard.said ++ given)) (sym begun) has;
    }

-- ---- replies
module _ {K : Type 0} (written : K → Option (List ℕ)) (faults : K → ℕ) where
  pub nothing_added : (sink : K) (waiting given : List ℕ) → given ≡ [] →
      Holds written faults sink sink waiting (waiting ++ given)
  nothing_added sink waiting given none =
      Holds-waits written faults sink waiting (waiting ++ given)
      (sym (ap (λ (t : List ℕ). waiting ++ t) none ∙ append-nil waiting))

-- ---- why a reader stops
pub refused_as : (begun : Bool) (why : Refusal) (note : List ℕ) (own : Stop) → IsRefusedAs why note own →
    StopsReader begun (Some (why, note)) own
refused_as begun why note stop.Read is = is
refused_as begun why note stop.TooLong is = is
refused_as begun why note (stop.Refused fault) is = cc
refused_as begun why note stop.Write is = is
refused_as begun why note stop.Memory is = absurd is

pub short_as : (begun : Bool) (note : FaultNote) (own : Stop) → own ≡ stop.Memory → begun ≡ false →
    StopsReader begun note own
short_as begun note own is before = subst (StopsReader begun note) (sym is) before
