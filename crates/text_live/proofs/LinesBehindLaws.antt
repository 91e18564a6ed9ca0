-- Lines of any language one after another, none of them faulty: one more behind them, and what they say all along.
use Rattle.std.proofs.Common.{◌≡◌, ◌∙◌, ℕ, ◌+◌, List, [], ◌∷◌, ◌++◌, length, ap, sym, subst, arith, refl, append_assoc}
use Rattle.std.proofs.Common.{Option, None, Some, Result, Ok}
use Rattle.std.specs.Prelude.{flat_map}
use Rattle.std.proofs.lemmas.List.{append-nil}
use Rattle.text_lines.specs.WordsOfLine.{words}
use Rattle.text_lines.specs.Language.{Language, said_from, unless_fault}
use Rattle.text_lines.specs.FirstFault.{AreSound}
use Rattle.text_lines.proofs.LineLanguageAndTableLaws.{passed, end_sound}
use Rattle.text_live.specs.Sayings.{behind, AreFineBehind}

module _ {D K : Type 0} (language : Language D K) where
  -- ---- one line more
  pub fine_more : (n : ℕ) (d : D) (ls : List (List ℕ)) (line : List ℕ) → AreFineBehind language n d ls →
      language.fault (behind language n d ls) (words line) ≡ None → AreFineBehind language n d (ls ++ line ∷ [])
  unfolding AreSound
  fine_more n d [] line fine none = (none, refl)
  fine_more n d (l ∷ ls) line fine none = (fine.0, fine_more (n + 1) (language.after n d (words l)) ls line fine.1 none)

  pub fine_less : (n : ℕ) (d : D) (ls : List (List ℕ)) (line : List ℕ) →
      AreFineBehind language n d (ls ++ line ∷ []) →
      AreFineBehind language n d ls × (language.fault (behind language n d ls) (words line) ≡ None)
  unfolding AreSound
  fine_less n d [] line fine = (refl, fine.0)
  fine_less n d (l ∷ ls) line fine =
      let less = fine_less (n + 1) (language.after n d (words l)) ls line fine.1 in
      ((fine.0, less.0), less.1)

  pub fine_front : (n : ℕ) (d : D) (ls more : List (List ℕ)) → AreFineBehind language n d (ls ++ more) →
      AreFineBehind language n d ls
  unfolding AreSound
  fine_front n d [] more fine = refl
  fine_front n d (l ∷ ls) more fine = (fine.0, fine_front (n + 1) (language.after n d (words l)) ls more fine.1)

  pub none_fine : (n : ℕ) (d : D) → AreFineBehind language n d []
  unfolding AreSound
  none_fine n d = refl

  pub behind_more : (n : ℕ) (d : D) (ls : List (List ℕ)) (line : List ℕ) →
      behind language n d (ls ++ line ∷ []) ≡ language.after (length ls + n) (behind language n d ls) (words line)
  behind_more n d [] line =
      ap (λ (k : ℕ). language.after k d (words line)) (let same : n ≡ length {A = List ℕ} [] + n = omega arith in same)
  behind_more n d (l ∷ ls) line =
      behind_more (n + 1) (language.after n d (words l)) ls line
      ∙ ap (λ (k : ℕ). language.after k (behind language n d (l ∷ ls)) (words line))
      (let same : length ls + (n + 1) ≡ length (l ∷ ls) + n = omega arith in same)

  -- ---- what they say
  pub says_all : (n : ℕ) (d : D) (ls : List (List ℕ)) → AreFineBehind language n d ls →
      language.missing (behind language n d ls) ≡ None → said_from language n d ls ≡ Ok (behind language n d ls)
  says_all n d ls fine whole =
      ap (said_from language n d) (sym (append-nil ls)) ∙ passed language ls [] n d (behind language n d ls) fine
      ∙ end_sound language (n + length ls) (behind language n d ls) [] refl whole

  no_fault : (n : ℕ) (now : D) (said : Result D (ℕ × K)) (found : Option K) → unless_fault n found said ≡ Ok now →
      (found ≡ None) × (said ≡ Ok now)
  no_fault n now said None e = (refl, e)
  no_fault n now said (Some wrong) e = absurd cc

  pub all_fine : (n : ℕ) (d now : D) (ls : List (List ℕ)) → said_from language n d ls ≡ Ok now →
      AreFineBehind language n d ls × (language.missing (behind language n d ls) ≡ None) × (behind language n d ls ≡ now)
  unfolding said_from AreSound
  all_fine n d now [] e =
      let is = no_fault n now (Ok d) (language.missing d) e in
      let same : d ≡ now = (let ends = is.1 in cc) in
      (refl, is.0, same)
  all_fine n d now (l ∷ ls) e =
      let later = language.after n d (words l) in
      let is = no_fault n now (said_from language (n + 1) later ls) (language.fault d (words l)) e in
      let rest = all_fine (n + 1) later now ls is.1 in
      ((is.0, rest.0), rest.1, rest.2)

-- ---- what stands behind each of them stands behind all
module _ {D K X : Type 0} (language : Language D K) (says : List ℕ → List X) (Speaks : ℕ → D → List X → Type 0)
    (one : (k n : ℕ) (d : D) (line : List ℕ) (said : List X) → Speaks k d said → language.fault d (words line) ≡ None →
    Speaks (k + 1) (language.after n d (words line)) (said ++ says line))
  where
    all_from : (k n : ℕ) (d : D) (ls : List (List ℕ)) (said : List X) → Speaks k d said → AreFineBehind language n d ls →
        Speaks (k + length ls) (behind language n d ls) (said ++ flat_map says ls)
    unfolding AreSound
    all_from k n d [] said speaks fine =
        subst (λ (l : List X). Speaks (k + 0) d l) (sym (append-nil said))
        (subst (λ (j : ℕ). Speaks j d said) (let same : k ≡ k + 0 = omega arith in same) speaks)
    all_from k n d (line ∷ ls) said speaks fine =
        let later = language.after n d (words line) in
        let rest = all_from (k + 1) (n + 1) later ls (said ++ says line) (one k n d line said speaks fine.0) fine.1 in
        subst (λ (l : List X). Speaks (k + length (line ∷ ls)) (behind language (n + 1) later ls) l)
        (append_assoc said (says line) (flat_map says ls))
        (subst (λ (j : ℕ). Speaks j (behind language (n + 1) later ls) ((said ++ says line) ++ flat_map says ls))
        (let same : k + 1 + length ls ≡ k + length (line ∷ ls) = omega arith in same) rest)

    pub all_speak : (ls : List (List ℕ)) → Speaks 0 language.first [] → AreFineBehind language 1 language.first ls →
        Speaks (length ls) (behind language 1 language.first ls) (flat_map says ls)
    all_speak ls begins fine =
        subst (λ (j : ℕ). Speaks j (behind language 1 language.first ls) (flat_map says ls))
        (let same : 0 + length ls ≡ length ls = omega arith in same) (all_from 0 1 language.first ls [] begins fine)
