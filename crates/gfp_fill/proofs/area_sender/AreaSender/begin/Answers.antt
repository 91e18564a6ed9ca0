-- The core header and the scrambled headers of the area stand at the end of the array.
use Rattle.std.proofs.Common.{◌≡◌, ℕ, ◌+◌, ◌-◌, ◌≤◌, List, ◌++◌, length, take, drop, sym, ◌∙◌, ap, subst, arith}
use Rattle.std.proofs.Common.{append_assoc, length-append, length-take-le, length-drop}
use Rattle.std.proofs.lemmas.List.{append-nil, take_at, drop_at, take_all, drop_all}
use Rattle.law_model.specs.Common.{core_header}
use Rattle.law_model.proofs.CoreHeaderLaws.{length-core_header}
use Rattle.gfp_scramble.specs.Scrambler.{Continues, ScramblesTo}
use Rattle.gfp_fill.specs.SentAreas.{Sender}
use Rattle.gfp_fill.proofs.SenderAndFillerStepLaws.{area_begun}
use Rattle.gfp_fill.proofs.area_sender.AreaSender.begin.Goals as goal

-- octets are put at a place of an array, and others behind them to its end
module _ (start at : ℕ) (old one two core front : List ℕ) (within : start ≤ length old)
    (behind : at ≡ start + length core) (size : length two ≡ at + length front)
    (first : take (start + length core) one ≡ take start old ++ core)
    (second : take (at + length front) two ≡ take at one ++ front) where
  whole : two ≡ (take start old ++ core) ++ front
  whole =
      sym (take_all (at + length front) two (omega arith)) ∙ second
      ∙ ap (λ l. l ++ front) (ap (λ n. take n one) behind ∙ first)

  seam : length (take start old ++ core) ≡ at
  seam = omega (arith, length-append (take start old) core, length-take-le start old within)

  last : drop at two ≡ front
  last = ap (drop at) whole ∙ drop_at (take start old ++ core) front at seam

  -- the last are changed
  changed : (area : List ℕ) → drop start (take at two ++ area) ≡ core ++ area
  changed area =
      ap (λ l. drop start (take at l ++ area)) whole
      ∙ ap (λ l. drop start (l ++ area)) (take_at (take start old ++ core) front at seam)
      ∙ ap (drop start) (append_assoc (take start old) core area)
      ∙ drop_at (take start old) (core ++ area) start (length-take-le start old within)

pub returns-clause-begins : goal.returns-clause-begins
returns-clause-begins c rest areas place long stands =
    let s : Sender = c.args.self.now in
    let front : List ℕ = c.args.front.now in
    let at : ℕ = 12 - length front in
    let start : ℕ = at - 4 in
    let core : List ℕ = c.core_bytes.result in
    let one : List ℕ = c.put.new.out in
    let two : List ℕ = c.put-2.new.out in
    let area : List ℕ = c.area.new.area in
    let is : core ≡ core_header (length front + c.args.n) = c.core_bytes.ensures in
    let four : length core ≡ 4 = ap length is ∙ length-core_header (length front + c.args.n) in
    let within : start ≤ length c.self.inside.headers = omega (arith, c.self.told) in
    let behind : at ≡ start + length core = omega (arith, four) in
    let size : length two ≡ at + length front =
    omega (arith, c.put-2.auto.out, c.put.auto.out, c.self.told) in
    let end : take (12 - at) (drop at two) ≡ front =
    take_all (12 - at) (drop at two) (omega (arith, length-drop at two))
    ∙ last start at c.self.inside.headers one two core front within behind size c.put.ensures.front
    c.put-2.ensures.front in
    let head : drop start (take at two ++ (area ++ drop (12 - at) (drop at two))) ≡ core ++ area =
    ap (λ l. drop start (take at two ++ (area ++ l)))
    (drop_all (12 - at) (drop at two) (omega (arith, length-drop at two)))
    ∙ ap (λ l. drop start (take at two ++ l)) (append-nil area)
    ∙ changed start at c.self.inside.headers one two core front within behind size c.put.ensures.front
    c.put-2.ensures.front area in
    area_begun s _ front rest areas place stands c.requires.done
    (ap (take 4) head ∙ take_at core area 4 four ∙ is ∙ ap (λ n. core_header (length front + n)) (sym long))
    (subst (ScramblesTo s.scrambler front) (sym (ap (drop 4) head ∙ drop_at core area 4 four))
    (subst (λ (t : Sender). ScramblesTo t.scrambler front area) c.self.view_is
    (subst (λ octets. ScramblesTo c.self.inside.scrambler octets area) end c.area.ensures.answer)))
    (subst (λ (t : Sender). Continues t.scrambler c.area.new.self front) c.self.view_is
    (subst (Continues c.self.inside.scrambler c.area.new.self) end c.area.ensures.stands))
