-- The draft of frames and flips line by line, and what a text of noise says.
use Rattle.std.proofs.Common.{◌≡◌, ℕ, ◌+◌, ◌-◌, ◌*◌, ◌<◌, ◌≤◌, nat_lt, List, [], ◌∷◌, ◌++◌, length, All, refl, sym}
use Rattle.std.proofs.Common.{◌∙◌, ap, subst, arith}
use Rattle.std.specs.List.{fold}
use Rattle.std.proofs.lemmas.Bool.{ltb-false}
use Rattle.std.proofs.lemmas.List.Sums.{fold-append}
use Rattle.std.proofs.lemmas.List.Elements.{All-append, All-cons, All-nil}
use Rattle.text_lines.specs.WordsOfLine.{word_at, number_at}
use Rattle.text_lines.specs.Fields.{within, digits}
use Rattle.text_lines.specs.LanguageTable.{next_by}
use Rattle.text_lines.proofs.TextLineAndWordLaws.{where_none, number_ok, digits_ok, one_field, two_fields}
use Rattle.text_lines.proofs.LineLanguageAndTableLaws.{IsPlaced, IsSound, Keeps, said_valid}
use Rattle.gfp_model.specs.declared.fcs_model.Flip.{Flip}
use Rattle.gfp_noise.specs.flip_law.FlipPlaces.{at, LiesIn, IsRising}
use Rattle.gfp_noise.specs.flip_law.FlippedStream.{fcs_stream, IsFrame}
use Rattle.gfp_noise.proofs.FlippedFcsStreamLaws.{sizes, length-fcs_stream, delivered-places}
use Rattle.gfp_noise.specs.declared.noise_link.noise_keyword.NoiseKeyword.{NoiseKeyword}
use Rattle.gfp_noise.specs.declared.noise_link.noise_draft.NoiseDraft.{NoiseDraft}
use Rattle.gfp_noise.specs.noise_link.NoiseTextLines.{place, not_rising, frame_said, flip_said, with_frame, with_flip}
use Rattle.gfp_noise.specs.noise_link.NoiseTextLines.{after, at_first, noise_table}
use Rattle.std.specs.Prelude.{Ok}
use Rattle.text_report.specs.ReportLines.{got_texts}
use Rattle.gfp_noise.specs.gfp_fcs.Delineator.{fcs_outcomes}
use Rattle.gfp_noise.specs.declared.noise_link.noise_draft.Noise.{Noise}
use Rattle.gfp_noise.specs.noise_link.Noise.{noise_in, noise_of, IsNoise}
use Rattle.gfp_noise.specs.noise_link.NoiseReportText.{received, causes, counts_text, noise_text, flip_bits, AreSingle}
use Rattle.gfp_noise.specs.noise_link.NoiseReportText.{untouched_text}
use Rattle.gfp_noise.specs.declared.noise_link.noise_keyword.NoiseKeyword.TheVariants as word

-- ---- What a draft meets, the draft after one more line meets as well.
-- the first bit behind those of flips, from one on
abbrev behind : ℕ → List Flip → ℕ
behind least flips = fold (λ n flip. at flip + 1) least flips

-- what is said where the next line may stand from a place on
pub record IsDraft (next : ℕ) (d : NoiseDraft) : Type 0 where
  pub size : d.size ≡ length (fcs_stream d.frames)
  pub idles : 8 ≤ d.size
  pub frames : All IsFrame d.frames
  pub flips : All (LiesIn d.size) d.flips
  pub rising : IsRising 0 d.flips
  pub least : d.least ≡ behind 0 d.flips
  pub none : next ≡ 0 → d.flips ≡ []

-- ---- a frame more
sizes-more : (frames : List (List ℕ)) (frame : List ℕ) →
    sizes (frames ++ frame ∷ []) ≡ sizes frames + (length frame + 12)
unfolding sizes
sizes-more [] frame = omega arith
sizes-more (f ∷ frames) frame = omega (arith, sizes-more frames frame)

length-more : (frames : List (List ℕ)) (frame : List ℕ)
    → length (fcs_stream (frames ++ frame ∷ [])) ≡ length (fcs_stream frames) + (length frame + 12)
length-more frames frame =
    omega (
      arith,
      length-fcs_stream (frames ++ frame ∷ []),
      length-fcs_stream frames,
      sizes-more frames frame,
    )

frame-more : (next : ℕ) (d : NoiseDraft) (frame : List ℕ) → IsDraft next d → next ≡ 0 → IsFrame frame
    → IsDraft 0 (with_frame d frame)
frame-more next d frame is first fits = record {
  size = ap (λ n. n + (length frame + 12)) is.size ∙ sym (length-more d.frames frame);
  idles = (let low = is.idles in omega (arith, low));
  frames = All-append IsFrame d.frames (frame ∷ []) is.frames (All-cons IsFrame frame [] fits (All-nil IsFrame));
  flips =
      subst (All (LiesIn (d.size + (length frame + 12)))) (sym (is.none first))
      (All-nil (LiesIn (d.size + (length frame + 12))));
  rising = is.rising;
  least = is.least;
  none = λ e. is.none first;
}

-- ---- a flip more
rising-more : (least : ℕ) (flips : List Flip) (flip : Flip) → IsRising least flips → behind least flips ≤ at flip
    → IsRising least (flips ++ flip ∷ [])
unfolding IsRising
rising-more least [] flip rising less = (less, tt)
rising-more least (first ∷ flips) flip rising less =
    (rising.0, rising-more (at first + 1) flips flip rising.1 less)

flip-more : (next : ℕ) (d : NoiseDraft) (flip : Flip) → IsDraft next d → LiesIn d.size flip → d.least ≤ at flip
    → IsDraft 1 (with_flip d flip)
flip-more next d flip is lies late = record {
  size = is.size;
  idles = is.idles;
  frames = is.frames;
  flips =
      All-append (LiesIn d.size) d.flips (flip ∷ []) is.flips
      (All-cons (LiesIn d.size) flip [] lies (All-nil (LiesIn d.size)));
  rising = rising-more 0 d.flips flip is.rising (subst (λ n. n ≤ at flip) is.least late);
  least = sym (fold-append (λ n flip. at flip + 1) 0 d.flips (flip ∷ []));
  none = λ e. absurd (omega (arith, e));
}

-- ---- a line more
draft-first : IsDraft 0 at_first
unfolding IsRising sizes
draft-first = record {
  size = sym (length-fcs_stream []);
  idles = omega arith;
  frames = All-nil IsFrame;
  flips = All-nil (LiesIn 8);
  rising = tt;
  least = refl;
  none = λ e. refl;
}

draft-after : (next : ℕ) (d : NoiseDraft) (k : NoiseKeyword) (ws : List (List ℕ)) → IsDraft next d → IsPlaced 0 next (place k)
    → IsSound noise_table d k ws → IsDraft (next_by noise_table k) (after d k ws)
draft-after next d word.Frame ws is at fine =
    let frame = digits_ok 2 64 9600 (word_at 0 ws) (one_field (digits 64 9600) 2 ws fine.count fine.each) in
    let first = at.fits in
    frame-more next d (frame_said ws) is (omega (arith, first))
    (record { least = frame.size.0; most = frame.size.1; octets = frame.each })
draft-after next d word.Flip ws is at fine =
    let two = two_fields (within 0 (d.size - 1)) (within 0 7) 2 0 ws fine.count fine.each in
    let place = number_ok 2 0 (d.size - 1) (word_at 0 ws) two.0 in
    let bit = number_ok 3 0 7 (word_at 1 ws) two.1 in
    let idles = is.idles in
    let early = nat_lt (8 * number_at 0 ws + number_at 1 ws) d.least in
    flip-more next d (flip_said ws) is
    (record {
      place = (let low : number_at 0 ws < d.size = omega (arith, place.1, idles) in low);
      bit = (let low : number_at 1 ws < 8 = omega (arith, bit.1) in low);
    })
    (ltb-false (8 * number_at 0 ws + number_at 1 ws) d.least (where_none early (not_rising d) fine.own))

pub noise-keeps : Keeps noise_table IsDraft
noise-keeps = record { first = draft-first; after = draft-after }

-- ---- What a text says is frames and flips that can be sent.
whole_noise : (next : ℕ) (d : NoiseDraft) → IsDraft next d → IsNoise (noise_in d)
whole_noise next d is = record {
  frames = is.frames;
  flips = subst (λ (n : ℕ). All (LiesIn n) d.flips) is.size is.flips;
  rising = is.rising;
}

pub valid_noise : (text : List ℕ) (noise : Noise) → noise_of text ≡ Ok noise → IsNoise noise
valid_noise text noise said =
    said_valid noise_table IsDraft noise-keeps noise_in IsNoise (λ next d all is. whole_noise next d is) text noise said

-- ---- what is written
pub single_written : (text : List ℕ) (noise : Noise) → noise_of text ≡ Ok noise → AreSingle noise →
    noise_text noise ≡ untouched_text noise
unfolding received
single_written text noise said single =
    let is = valid_noise text noise said in
    ap (λ (frames : List (List ℕ)). got_texts frames
    ++ counts_text (length noise.frames) (length noise.flips) (length frames)
    (length (causes (fcs_outcomes (received noise)))))
    (delivered-places noise.frames noise.flips (flip_bits noise) is.frames is.flips refl single.idles single.few)
