-- Worked flips, by the law of flips: its premises and the frames that get through are computed.
use Rattle.std.proofs.Common.{◌≡◌, ℕ, ◌+◌, ◌-◌, ◌*◌, ◌<◌, ◌≤◌, ◌&&◌, Bool, true, false, List, [], ◌∷◌, ◌++◌, length}
use Rattle.std.proofs.Common.{take, drop, replicate, All, refl, arith, nat_le, length-append, leb-true}
use Rattle.std.proofs.lemmas.List.{length-replicate}
use Rattle.std.proofs.lemmas.List.Elements.{All-replicate}
use Rattle.std.proofs.lemmas.Bool.{and_parts}
use Rattle.law_model.specs.Common.{count}
use Rattle.gfp_noise.specs.flip_law.FlippedStream.{fcs_stream, IsFrame, area_flips, flips_after, window, AreFew, clear}
use Rattle.gfp_noise.specs.flip_law.FlippedStream.{worked_frames, one_flip}
use Rattle.gfp_noise.proofs.FlippedFcsStreamLaws.{sizes, length-fcs_stream, delivered-clear}
use Rattle.gfp_noise.proofs.flip_law.worked_law.Goals as goal

-- the premise on flips, as a test
are_few : List Bool → List Bool → List (List ℕ) → Bool
are_few before flips [] = true
are_few before flips (frame ∷ frames) =
    nat_le (count (take 32 flips)) 1 && (nat_le (count (window before (area_flips flips frame))) 1
    && are_few (before ++ area_flips flips frame) (flips_after flips frame) frames)

AreFew-tested : (before flips : List Bool) (frames : List (List ℕ)) → are_few before flips frames ≡ true
    → AreFew before flips frames
unfolding are_few AreFew
AreFew-tested before flips [] e = tt
AreFew-tested before flips (frame ∷ frames) e =
    let one = and_parts (nat_le (count (take 32 flips)) 1) _ e in
    let more = and_parts (nat_le (count (window before (area_flips flips frame))) 1) _ one.1 in (
      leb-true _ 1 one.0,
      leb-true _ 1 more.0,
      AreFew-tested (before ++ area_flips flips frame)
          (flips_after flips frame) frames more.1,
    )

frames_fit : All IsFrame worked_frames
frames_fit = All-replicate IsFrame 3 (replicate 64 0) (record {
  least = omega (arith, length-replicate {A = ℕ} 64 0);
  most = omega (arith, length-replicate {A = ℕ} 64 0);
  octets = All-replicate (λ o. o < 256) 64 0 (omega arith);
})

worked_size : sizes worked_frames ≡ 228
unfolding sizes
worked_size = refl

size : (place bit : ℕ) → 8 * place + bit ≤ 1887 → length (one_flip place bit) ≡ 8 * length (fcs_stream worked_frames)
size place bit h =
    omega (
      arith,
      length-append (replicate (8 * place + bit) false)
          (true ∷ replicate (1887 - (8 * place + bit)) false),
      length-replicate (8 * place + bit) false,
      length-replicate
          (1887 - (8 * place + bit)) false,
      length-fcs_stream worked_frames,
      worked_size,
    )

pub returns-clause-in_header : goal.returns-clause-in_header
unfolding are_few count clear
returns-clause-in_header c =
    delivered-clear worked_frames (one_flip 8 0) frames_fit (size 8 0 (omega arith)) refl
    (AreFew-tested [] (drop 64 (one_flip 8 0)) worked_frames refl)

pub returns-clause-in_area : goal.returns-clause-in_area
unfolding are_few count clear
returns-clause-in_area c =
    delivered-clear worked_frames (one_flip 120 0) frames_fit (size 120 0 (omega arith)) refl
    (AreFew-tested [] (drop 64 (one_flip 120 0)) worked_frames refl)

pub returns-clause-at_end : goal.returns-clause-at_end
unfolding are_few count clear
returns-clause-at_end c =
    delivered-clear worked_frames (one_flip 159 7) frames_fit (size 159 7 (omega arith)) refl
    (AreFew-tested [] (drop 64 (one_flip 159 7)) worked_frames refl)
