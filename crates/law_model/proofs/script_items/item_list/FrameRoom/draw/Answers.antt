-- It is the first of the frames from its number on.
use Rattle.std.proofs.Common.{◌≡◌, ℕ, suc, ◌<◌, List, [], ◌∷◌, length, take, refl, sym, ap, ◌∙◌, arith}
use Rattle.std.proofs.lemmas.List.{with_items_is}
use Rattle.law_rates.specs.Places.{frames_from}
use Rattle.law_rates.specs.Rates.{RateFrame, count_of, due_of, frame_at, frame_of, size_at, state_of}
use Rattle.law_rates.specs.declared.rate_frames.Rate.{Rate}
use Rattle.law_rates.proofs.RateCountLaws.{from_next}
use Rattle.law_model.proofs.script_items.item_list.FrameRoom.draw.Goals as goal

next : (rate : Rate) (n : ℕ) → n < count_of rate → frames_from rate n ≡ frame_at rate n ∷ frames_from rate (suc n)
next rate n there =
    from_next rate n (suc n) (due_of rate n) (frame_of (size_at rate.sizes n) (state_of rate n)) there refl refl refl

first_octets : (rate : Rate) (n : ℕ) (frame : RateFrame) (rest : List RateFrame) → n < count_of rate →
    frames_from rate n ≡ frame ∷ rest → frame.octets ≡ (frame_at rate n).octets
first_octets rate n frame rest there is =
    let e : frame ∷ rest ≡ frame_at rate n ∷ frames_from rate (suc n) = sym is ∙ next rate n there in
    let same : frame ≡ frame_at rate n = cc in
    ap (λ (f : RateFrame). f.octets) same

none : (rate : Rate) (n : ℕ) → n < count_of rate → frames_from rate n ≡ [] → ⊥
none rate n there is =
    let e : frame_at rate n ∷ frames_from rate (suc n) ≡ [] = sym (next rate n there) ∙ is in
    absurd cc

pub returns-in-Some : goal.returns-in-Some
returns-in-Some c =
    let long : length c.next.new.room ≡ c.self.inside.octets.len =
    omega (arith, c.next.auto.room, c.deref_mut.ensures.len) in
    ap (take c.in-Some.size) (with_items_is c.self.inside.octets c.next.new.room long)
    ∙ first_octets c.args.rate.now c.args.number
    (record { due = c.in-Some.field-0-0; octets = take c.in-Some.size c.next.new.room }) c.next.new.self
    c.requires.there (sym c.at-frames.ensures ∙ c.in-Some.ensures.frame)

pub returns-in_default : goal.returns-in_default
returns-in_default c =
    absurd (none c.args.rate.now c.args.number c.requires.there (sym c.at-frames.ensures ∙ c.in_default.ensures.end))
