-- What came is compared with as many octets of an idle header, and no other number of them is as long.
use Rattle.std.proofs.Common.{◌≡◌, ◌-◌, ◌<◌, ℕ, List, length, take, drop, sym, ◌∙◌, ap, arith, length-drop, length-take}
use Rattle.std.proofs.lemmas.List.{take_all}
use Rattle.std.proofs.lemmas.Slice.Eq.{bytes_eq-Decides}
use Rattle.law_model.proofs.CoreHeaderLaws.{idle_header}
use Rattle.gfp_delineate.proofs.idle_runs.begins_idle.Goals as goal

-- what came is compared with as many octets of a header
came : (have n : ℕ) (window : List ℕ) → n ≡ have → length window ≡ 4 → have < 4 →
    drop (4 - have) window ≡ take (4 - (4 - n)) (drop (4 - n) window)
came have n window same size part =
    sym (take_all (4 - (4 - have)) (drop (4 - have) window) (omega (arith, length-drop (4 - have) window)))
    ∙ ap (λ n. take (4 - (4 - n)) (drop (4 - n) window)) (sym same)

pub returns-clause-begun : goal.returns-clause-begun
returns-clause-begun c same =
    let window : List ℕ = c.args.window.now in
    let n : ℕ = c.from-have.result in
    let back : List ℕ = take (4 - (4 - n)) (drop (4 - n) window) in
    came c.args.have n window c.from-have.ensures c.told-window c.requires
    ∙ (bytes_eq-Decides back (take n idle_header)).0 (sym c.eq.ensures ∙ same)
    ∙ ap (λ n. take n idle_header) c.from-have.ensures

pub returns-clause-all : goal.returns-clause-all
returns-clause-all c place alike =
    let window : List ℕ = c.args.window.now in
    let n : ℕ = c.from-have.result in
    let back : List ℕ = take (4 - (4 - n)) (drop (4 - n) window) in
    let have : ℕ = c.args.have in
    let short : place ≡ n =
    omega (
      arith,
      ap length alike,
      length-drop (4 - have) window,
      length-take place idle_header,
      c.told-window,
      c.requires,
      c.from-have.ensures,
    ) in
    c.eq.ensures
    ∙ (bytes_eq-Decides back (take n idle_header)).1
    (sym (came have n window c.from-have.ensures c.told-window c.requires) ∙ alike ∙ ap (λ n. take n idle_header) short)
