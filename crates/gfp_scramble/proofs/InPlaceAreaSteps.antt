-- More octets of an area that is scrambled or descrambled in place.
use Rattle.std.proofs.Common.{take-add, ◌≡◌, ℕ, ◌+◌, ◌-◌, ◌*◌, ◌/◌, ◌<◌, ◌≤◌, List, [], ◌∷◌, ◌++◌, length, take, drop}
use Rattle.std.proofs.Common.{set, get_or, sym, ap, ◌∙◌, arith, append_assoc, length-append, take_all, drop-set-lt}
use Rattle.std.proofs.Common.{drop-drop, length-take, length-drop}
use Rattle.std.proofs.lemmas.Slice.{take-put_mid, drop-put_mid}
use borrow.Rule.Slice.PartMut.{put_mid}
use Rattle.gfp_scramble.proofs.ScramblerAndDescramblerLaws.{drop_alike}
use Rattle.std.proofs.lemmas.List.{take_more, take_more_set, drop_more}

-- More octets of an area that is scrambled or descrambled in place. `f` are the octets that come of a list, as many
-- as it has, and nothing is said of the first `u`.
-- octets behind two lists that agree
front_longer : (n u : ℕ) (f : List ℕ → List ℕ) → ((l : List ℕ) → length (f l) ≡ length l) →
    (octets was area more : List ℕ) → length area ≡ length was →
    drop u (f (octets ++ take n was)) ≡ drop u (f octets ++ take n area) →
    drop u (f (octets ++ take n was) ++ more) ≡ drop u (f octets ++ (take n area ++ more))
front_longer n u f same octets was area more size front =
    drop_alike u u (f (octets ++ take n was)) (f octets ++ take n area) more
    (omega (
      arith,
      same (octets ++ take n was),
      same octets,
      length-append octets (take n was),
      length-append
          (f octets) (take n area),
      length-take n was,
      length-take n area,
      size,
    )) front
    ∙ ap (drop u) (append_assoc (f octets) (take n area) more)

module _ (i : ℕ) (was area : List ℕ) (fits : i < length was) (size : length area ≡ length was)
    (back : drop i area ≡ drop i was) where
  octet_same : get_or area i 0 ≡ get_or was i 0
  octet_same =
      let within : i < length area = omega arith in
      let one = drop_more area i 0 within in
      let other = drop_more was i 0 fits in
      cc

  pub back_more : (x : ℕ) → drop (i + 1) (set area i x) ≡ drop (i + 1) was
  back_more x =
      let within : i < length area = omega arith in
      let one = drop_more area i 0 within in
      let other = drop_more was i 0 fits in
      let rest = drop-set-lt (i + 1) area i x (omega arith) in
      cc

  -- the octets given with one more
  pub given_more : (octets : List ℕ) → (octets ++ take i was) ++ get_or area i 0 ∷ [] ≡ octets ++ take (i + 1) was
  given_more octets =
      append_assoc octets (take i was) (get_or area i 0 ∷ [])
      ∙ sym (ap (λ l. octets ++ l) (take_more was i 0 fits ∙ ap (λ o. take i was ++ o ∷ []) (sym octet_same)))

  pub front_more : (u : ℕ) (f : List ℕ → List ℕ) → ((l : List ℕ) → length (f l) ≡ length l) →
      (octets : List ℕ) (x : ℕ) →
      drop u (f (octets ++ take i was)) ≡ drop u (f octets ++ take i area) →
      drop u (f ((octets ++ take i was) ++ get_or area i 0 ∷ [])) ≡ drop u (f (octets ++ take i was) ++ x ∷ []) →
      drop u (f (octets ++ take (i + 1) was)) ≡ drop u (f octets ++ take (i + 1) (set area i x))
  front_more u f same octets x front answer =
      ap (λ l. drop u (f l)) (sym (given_more octets)) ∙ answer
      ∙ front_longer i u f same octets was area (x ∷ []) size front
      ∙ ap (λ l. drop u (f octets ++ l)) (sym (take_more_set area i x (omega arith)))

-- eight more octets, where `piece` stands for them now
module _ (i : ℕ) (was area piece : List ℕ) (fits : i < length was / 8) (size : length area ≡ length was)
    (back : drop (8 * i) area ≡ drop (8 * i) was)
    (eight : length piece ≡ length (take (8 * i + 8 - 8 * i) (drop (8 * i) area))) where
  pub given_eight : (octets : List ℕ) →
      (octets ++ take (8 * i) was) ++ take (8 * i + 8 - 8 * i) (drop (8 * i) area) ≡ octets ++ take (8 * (i + 1)) was
  given_eight octets =
      append_assoc octets (take (8 * i) was) (take (8 * i + 8 - 8 * i) (drop (8 * i) area))
      ∙ ap (λ l. octets ++ l)
      (ap (λ l. take (8 * i) was ++ take (8 * i + 8 - 8 * i) l) back
      ∙ sym (take-add (8 * i) (8 * i + 8 - 8 * i) was)
      ∙ (let e : 8 * i + (8 * i + 8 - 8 * i) ≡ 8 * (i + 1) = omega arith in ap (λ n. take n was) e))

  piece_is : length piece ≡ 8 * i + 8 - 8 * i
  piece_is = omega (arith, length-take (8 * i + 8 - 8 * i) (drop (8 * i) area), length-drop (8 * i) area)

  pub back_eight : drop (8 * (i + 1)) (put_mid (8 * i) (8 * i + 8 - 8 * i) area piece) ≡ drop (8 * (i + 1)) was
  back_eight =
      drop-put_mid (8 * i) (8 * i + 8 - 8 * i) area piece (8 * (i + 1)) (omega arith) (omega arith) piece_is
      ∙ (let e : 8 * (i + 1) ≡ 8 * i + 8 = omega arith in ap (λ n. drop n area) e)
      ∙ sym (drop-drop 8 (8 * i) area) ∙ ap (drop 8) back ∙ drop-drop 8 (8 * i) was
      ∙ (let e : 8 * i + 8 ≡ 8 * (i + 1) = omega arith in ap (λ n. drop n was) e)

  pub front_eight : (u : ℕ) (f : List ℕ → List ℕ) → ((l : List ℕ) → length (f l) ≡ length l) → (octets : List ℕ) →
      drop u (f (octets ++ take (8 * i) was)) ≡ drop u (f octets ++ take (8 * i) area) →
      drop u (f ((octets ++ take (8 * i) was) ++ take (8 * i + 8 - 8 * i) (drop (8 * i) area)))
      ≡ drop u (f (octets ++ take (8 * i) was) ++ piece) →
      drop u (f (octets ++ take (8 * (i + 1)) was))
      ≡ drop u (f octets ++ take (8 * (i + 1)) (put_mid (8 * i) (8 * i + 8 - 8 * i) area piece))
  front_eight u f same octets front answer =
      ap (λ l. drop u (f l)) (sym (given_eight octets)) ∙ answer
      ∙ front_longer (8 * i) u f same octets was area piece size front
      ∙ ap (λ l. drop u (f octets ++ l)) (sym (take-put_mid (8 * i) (8 * i + 8 - 8 * i) area piece (8 * (i + 1))
      (omega (arith, piece_is)) (omega arith)))

-- after the last octet
pub front_all : (u : ℕ) (f : List ℕ → List ℕ) (octets was area : List ℕ) (n : ℕ) → length was ≤ n →
    length area ≡ length was →
    drop u (f (octets ++ take n was)) ≡ drop u (f octets ++ take n area) →
    drop u (f (octets ++ was)) ≡ drop u (f octets ++ area)
front_all u f octets was area n long size front =
    ap (λ l. drop u (f (octets ++ l))) (sym (take_all n was long)) ∙ front
    ∙ ap (λ l. drop u (f octets ++ l)) (take_all n area (omega arith))
