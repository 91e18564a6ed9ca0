-- What one frame does to what a sink has taken and given, and that what was given stays.
use Rattle.std.proofs.Common.{◌≡◌, ℕ, ◌*◌, ◌<◌, List, [], ◌∷◌, ◌++◌, length, drop, Ok, refl, sym, ◌∙◌, ap, ap₂, subst}
use Rattle.std.proofs.Common.{arith, append_assoc, length-append, ◌-◌, ◌/◌, Option, Result, Err}
use Rattle.std.specs.List.{concat}
use Rattle.std.proofs.lemmas.List.{drop_all, drop_at, append-nil}
use Rattle.std.proofs.lemmas.List.Folds.{concat-append}
use Rattle.std.proofs.lemmas.List.Sums.{fold-append}
use Rattle.std.proofs.lemmas.List.Elements.{All-append, All-nil}
use Rattle.law_model.specs.Common.{Start}
use Rattle.member_au4.specs.declared.au4_pointer.au_frame.Action.{Action}
use Rattle.member_au4.specs.declared.au4_pointer.au_frame.Action.TheVariants.{New}
use Rattle.member_au4.specs.declared.au4_pointer.au_frame.AuFrame.{AuFrame}
use Rattle.member_au4.specs.au4_pointer.PointerWord.{reading}
use Rattle.member_au4.specs.au4_pointer.Sink.{vcs_in, Reception, given_by, value_behind, told, receive, nothing}
use Rattle.member_au4.specs.au4_pointer.Sink.{reception, given, added, data_of, Sink, Holds, PointerSinkStands, Gives}
use Rattle.member_au4.specs.au4_pointer.Sink.{due, pieces}
use Rattle.member_au4.proofs.VcsOfStreamPartLaws.{drop-both, are-vcs, vcs-split, whole-pieces, few-left, all-pieces}
use Rattle.member_au4.specs.declared.au4_pointer.pointer_sink.PointerWordFault.{PointerWordFault}

-- ---- What one frame does to what a sink has taken.
-- data of a part, and more of it
pub record More (is : Sink) (begin : ℕ) (octets more : List ℕ) (vcs : List (List ℕ)) : Type 0 where
  pub holds : Holds is.lead is.kept begin (octets ++ more)
  pub adds : vcs_in begin (octets ++ more) ≡ vcs_in begin octets ++ vcs

module _ {O : Type 0} (stands : O → Start → List (List ℕ) → Type 0) (before now : O) (is : Sink)
    (few : length is.kept < 2349) where
  pub more-held : (was : Sink) (begin : ℕ) (octets more : List ℕ) → Holds was.lead was.kept begin octets
      → (gives : Gives stands before now was is more) → More is begin octets more gives.vcs
  more-held was begin octets more holds gives =
      let old = vcs_in begin octets in
      let vcs = gives.vcs in
      let split : drop (3 * begin) (octets ++ more) ≡ concat (old ++ vcs) ++ is.kept =
      drop-both (3 * begin) octets more ∙ ap₂ (λ l n. l ++ drop n more) holds.split (sym holds.ahead)
      ∙ append_assoc (concat old) was.kept (drop was.lead more)
      ∙ ap (λ l. concat old ++ l) gives.split ∙ sym (append_assoc (concat old) (concat vcs) is.kept)
      ∙ ap (λ l. l ++ is.kept) (sym (concat-append old vcs)) in
      let adds : vcs_in begin (octets ++ more) ≡ old ++ vcs =
      vcs-split begin (octets ++ more) (old ++ vcs) is.kept (All-append (λ v. length v ≡ 2349) old vcs
      (are-vcs begin octets) gives.size) few split in
      record {
        holds = record {
          ahead = omega (arith, gives.lead, holds.ahead, length-append octets more);
          few = few;
          split = split ∙ ap (λ l. concat l ++ is.kept) (sym adds);
        };
        adds = adds;
      }

  -- no data of a part
  none-in : (begin : ℕ) → vcs_in begin [] ≡ []
  none-in begin = vcs-split begin [] [] [] (All-nil (λ v. length v ≡ 2349)) (omega arith)
      (drop_all (3 * begin) [] (omega arith))

  none-held : (begin : ℕ) → Holds (3 * begin) [] begin []
  none-held begin = record {
    ahead = omega arith;
    few = omega arith;
    split = drop_all (3 * begin) [] (omega arith) ∙ ap (λ l. concat l ++ []) (sym (none-in begin));
  }

  -- ---- a frame
  pub record Told (r : Reception) (frame : AuFrame) (a : Action) (vcs : List (List ℕ)) : Type 0 where
    pub value : value_behind r.value a ≡ (told r frame (Ok a)).value
    pub holds : Holds is.lead is.kept (told r frame (Ok a)).begin (told r frame (Ok a)).octets
    pub adds : given_by (told r frame (Ok a)) ≡ given_by r ++ vcs

  within : (r : Reception) (more : List ℕ) (vcs : List (List ℕ))
      → vcs_in r.begin (r.octets ++ more) ≡ vcs_in r.begin r.octets ++ vcs
      → r.before ++ vcs_in r.begin (r.octets ++ more) ≡ given_by r ++ vcs
  within r more vcs adds = ap (λ l. r.before ++ l) adds ∙ sym (append_assoc r.before (vcs_in r.begin r.octets) vcs)

  frame-told : (was : Sink) (r : Reception) (frame : AuFrame) (a : Action) → Holds was.lead was.kept r.begin r.octets
      → (gives : Gives stands before now (due was a) is (data_of a frame)) → Told r frame a gives.vcs
  frame-told was r frame (New p) holds gives =
      let m = more-held (due was (New p)) p [] frame.body (none-held p) gives in
      record {
        value = refl;
        holds = m.holds;
        adds = ap (λ l. given_by r ++ l) (m.adds
            ∙ ap (λ l. l ++ gives.vcs) (none-in p));
      }
  frame-told was r frame a holds gives =
      let m = more-held was r.begin r.octets (data_of a frame) holds gives in
      record { value = refl; holds = m.holds; adds = within r (data_of a frame) gives.vcs m.adds }

  -- ---- frames
  pub record Takes (was : Sink) (frames : List AuFrame) (frame : AuFrame) (a : Action)
      (vcs : List (List ℕ)) : Type 0 where
    pub now_stands : PointerSinkStands (record { value = value_behind was.value a; lead = is.lead; kept = is.kept })
        (frames ++ frame ∷ [])
    pub adds : vcs ≡ added frames frame
    pub grows : given (frames ++ frame ∷ []) ≡ given frames ++ vcs

  pub takes : (was : Sink) (frames : List AuFrame) (frame : AuFrame) (a : Action) → PointerSinkStands was frames
      → reading was.value frame.word ≡ Ok a
      → (gives : Gives stands before now (due was a) is (data_of a frame)) → Takes was frames frame a gives.vcs
  takes was frames frame a s read gives =
      let r = reception frames in
      let t = frame-told was r frame a s.holds gives in
      let next : reception (frames ++ frame ∷ []) ≡ told r frame (Ok a) =
      fold-append receive nothing frames (frame ∷ []) ∙ ap (told r frame)
      (ap (λ v. reading v frame.word) (sym s.value) ∙ read) in
      record {
        now_stands = record {
          value = ap (λ v. value_behind v a) s.value ∙ t.value ∙ ap (λ (q : Reception). q.value) (sym next);
          holds = subst (λ (q : Reception). Holds is.lead is.kept q.begin q.octets) (sym next) t.holds;
        };
        adds = sym (ap (λ q. drop (length (given frames)) (given_by q)) next
            ∙ ap (drop (length (given frames))) t.adds ∙ drop_at (given frames) gives.vcs
            (length (given frames)) refl);
        grows = ap given_by next ∙ t.adds;
      }

-- ---- What is given, one after another.
module _ {O : Type 0} (stands : O → Start → List (List ℕ) → Type 0) where
  -- nothing is taken
  pub gives-none : (o : O) (was : Sink) → Gives stands o o was was []
  gives-none o was = record {
    vcs = [];
    size = All-nil (λ vc. length vc ≡ 2349);
    gives = λ start given h. subst (stands o start) (sym (append-nil given)) h;
    lead = omega arith;
    split = ap (λ l. was.kept ++ l) (drop_all was.lead [] (omega arith)) ∙ append-nil was.kept;
  }

  -- and then more
  pub gives-more : (o p q : O) (was mid is : Sink) (first second : List ℕ) → Gives stands o p was mid first
      → Gives stands p q mid is second → Gives stands o q was is (first ++ second)
  gives-more o p q was mid is first second one two = record {
    vcs = one.vcs ++ two.vcs;
    size = All-append (λ vc. length vc ≡ 2349) one.vcs two.vcs one.size two.size;
    gives = λ start given h. subst (stands q start) (append_assoc given one.vcs two.vcs)
        (two.gives start (given ++ one.vcs) (one.gives start given h));
    lead = omega (arith, one.lead, two.lead, length-append first second);
    split = ap (λ l. was.kept ++ l) (drop-both was.lead first second
        ∙ ap (λ n. drop was.lead first ++ drop n second) (sym one.lead))
        ∙ sym (append_assoc was.kept (drop was.lead first) (drop mid.lead second))
        ∙ ap (λ l. l ++ drop mid.lead second) one.split
        ∙ append_assoc (concat one.vcs) mid.kept (drop mid.lead second)
        ∙ ap (λ l. concat one.vcs ++ l) two.split
        ∙ sym (append_assoc (concat one.vcs) (concat two.vcs) is.kept)
        ∙ ap (λ l. l ++ is.kept) (sym (concat-append one.vcs two.vcs));
  }

-- ---- One frame more changes nothing of what was given before.
-- what stands for nothing
abbrev free : Unit {0} → Start → List (List ℕ) → Type 0
free o start vcs = Unit {0}

left-of : List ℕ → List ℕ
left-of octets = drop (2349 * (length octets / 2349)) octets

-- a sink that has taken the data of a part
holder : Option ℕ → ℕ → List ℕ → Sink
holder value begin octets = record {
  value = value;
  lead = 3 * begin - length octets;
  kept =
      left-of (drop (3 * begin) octets);
}

holds-any : (value : Option ℕ) (begin : ℕ) (octets : List ℕ)
    → Holds (holder value begin octets).lead (holder value begin octets).kept begin octets
unfolding holder left-of
holds-any value begin octets =
    let behind = drop (3 * begin) octets in
    let vcs = pieces (length behind / 2349) behind in
    let split : behind ≡ concat vcs ++ drop (2349 * (length behind / 2349)) behind = sym (whole-pieces behind) in
    record {
      ahead = refl;
      few = few-left behind;
      split = split ∙ ap (λ l. concat l ++ drop (2349 * (length behind / 2349)) behind)
          (sym (vcs-split begin octets vcs (drop (2349 * (length behind / 2349)) behind) (all-pieces behind)
          (few-left behind) split));
    }

-- and one that has taken more
further : Sink → List ℕ → Sink
further was octets = record {
  value = was.value;
  lead = was.lead - length octets;
  kept =
      left-of (was.kept ++ drop was.lead octets);
}

few-further : (was : Sink) (octets : List ℕ) → length (further was octets).kept < 2349
unfolding further left-of
few-further was octets = few-left (was.kept ++ drop was.lead octets)

gives-any : (was : Sink) (octets : List ℕ) → Gives free tt tt was (further was octets) octets
unfolding further left-of
gives-any was octets =
    let all = was.kept ++ drop was.lead octets in
    record {
      vcs = pieces (length all / 2349) all;
      size = all-pieces all;
      gives = λ start given h. tt;
      lead = refl;
      split = sym (whole-pieces all);
    }

grows-as : (frames : List AuFrame) (frame : AuFrame) (answer : Result Action PointerWordFault)
    → reading (reception frames).value frame.word ≡ answer → given (frames ++ frame ∷ []) ≡ given frames
    ++ added frames frame
unfolding holder
grows-as frames frame (Ok a) read =
    let r = reception frames in
    let was = holder r.value r.begin r.octets in
    let is = further (due was a) (data_of a frame) in
    let s : PointerSinkStands was frames = record { value = refl; holds = holds-any r.value r.begin r.octets } in
    let t = takes free tt tt is (few-further (due was a) (data_of a frame)) was frames frame a s read
    (gives-any (due was a) (data_of a frame)) in
    t.grows ∙ ap (λ l. given frames ++ l) t.adds
grows-as frames frame (Err fault) read =
    let next : given (frames ++ frame ∷ []) ≡ given frames =
    ap given_by (fold-append receive nothing frames (frame ∷ []) ∙ ap (told (reception frames) frame) read)
    ∙ ap (λ l. given frames ++ l) (vcs-split 0 [] [] [] (all-pieces []) (omega arith) refl)
    ∙ append-nil (given frames) in
    next ∙ sym (append-nil (given frames))
    ∙ ap (λ l. given frames ++ l) (sym (ap (drop (length (given frames))) next
    ∙ drop_all (length (given frames)) (given frames) (omega arith)))

pub grows : (frames : List AuFrame) (frame : AuFrame) → given (frames ++ frame ∷ []) ≡ given frames
    ++ added frames frame
grows frames frame = grows-as frames frame (reading (reception frames).value frame.word) refl
