-- What one step of a sender does to what stands over its areas, and one step of a fill to its stream.
use Rattle.std.proofs.Common.{◌≡◌, ℕ, zero, suc, ◌+◌, ◌≤◌, List, [], ◌∷◌, ◌++◌, length, take, drop, refl, replicate}
use Rattle.std.proofs.Common.{sym, ap, ap₂, subst, ◌∙◌, arith, append_assoc, length-append, length-take-le}
use Rattle.std.proofs.Common.{length-drop, append-nil, take_at, drop_at, take_all, take-append-drop, drop-drop, map}
use Rattle.std.proofs.Common.{◌*◌, ◌<◌, take-add}
use Rattle.std.proofs.lemmas.List.{drop_all, take-append-le, drop-append-le, map-append}
use Rattle.law_model.specs.Common.{scrambled_octets, core_header, cut, joined, with_header, areas_stream, type_header}
use Rattle.law_model.specs.Common.{Piece, client, area_of, size_of, stream_of, size, Stream, next_by, reached}
use Rattle.law_model.proofs.CoreHeaderLaws.{length-core_header, idles}
use Rattle.law_model.proofs.ScrambledBitAndAreaLaws.{joined-append, joined-push, length-scrambled_octets}
use Rattle.law_model.proofs.ScrambledBitAndAreaLaws.{scrambled_octets-append, length-scrambled_single}
use Rattle.law_model.proofs.StreamOfPiecesLaws.{areas_behind, areas_stream-append, areas_stream-push, length-stream_of}
use Rattle.law_model.proofs.StreamOfPiecesLaws.{reaching-here, reached-next, reached-join, reached-fewest}
use Rattle.law_model.proofs.StreamOfPiecesLaws.{length-areas_behind}
use Rattle.gfp_scramble.specs.Scrambler.{ScramblerStands as HasScrambled, Continues, ScramblesTo}
use Rattle.gfp_fill.specs.SentAreas.{Sender, head_of, StandsIn, HasWrittenIn}
use Rattle.std.proofs.lemmas.List.Sums.{sum-map}
use Rattle.gfp_fill.specs.Multiplex.{IsMultiplex, Multiplex, octets_of, NoneWaits, Stands, HasWritten}
use Rattle.gfp_fill.specs.Queue.{Held}
use Rattle.gfp_fill.specs.FilledStream.{oldest_first, FillerStands}
use Rattle.law_model.proofs.ListLaws.{within-append}

-- ---- What one step of a sender does to what stands over areas.
-- ---- a sender and a place in areas tell the octets that are left
octets_left : (sender : Sender) (left : List ℕ) (areas : List (List ℕ)) (place : ℕ) →
    StandsIn sender left areas place →
    length (drop place (areas_stream areas)) ≡ length (head_of sender) + length left
octets_left sender left areas place stands =
    ap length stands.rest
    ∙ length-append (head_of sender) (drop (length stands.given) (scrambled_octets (stands.given ++ left)))
    ∙ ap (λ n. length (head_of sender) + n) (length-scrambled_single stands.given left)

-- two lists that are alike end alike
same_end : (a b c d : List ℕ) → a ++ b ≡ c ++ d → length b ≡ length d → b ≡ d
same_end a b c d e size =
    let front : length a ≡ length c = omega (arith, ap length e, length-append a b, length-append c d, size) in
    sym (drop_at a b (length c) front) ∙ ap (drop (length c)) e ∙ drop_at c d (length c) refl

pub one_left : (sender : Sender) (left other : List ℕ) (areas : List (List ℕ)) (place : ℕ) →
    StandsIn sender left areas place → StandsIn sender other areas place → other ≡ left
one_left sender left other areas place one two =
    let size : length other ≡ length left =
    omega (arith, octets_left sender left areas place one, octets_left sender other areas place two) in
    same_end two.given other one.given left (sym two.parts ∙ one.parts) size

-- where all octets are written, the place is at the end
pub all_written : (sender : Sender) (areas : List (List ℕ)) (place : ℕ) → StandsIn sender [] areas place →
    head_of sender ≡ [] → place ≡ length (areas_stream areas)
all_written sender areas place stands head =
    omega (
      arith,
      octets_left sender [] areas place stands,
      ap length head,
      length-drop place (areas_stream areas),
      stands.within,
    )

-- ---- octets of areas that are begun are written
written_in : (sender : Sender) (left : List ℕ) (areas : List (List ℕ)) (place n : ℕ) (rest octets : List ℕ)
    → place ≤ length (areas_stream areas) → drop place (areas_stream areas) ≡ rest → n ≤ length rest
    → octets ≡ take n rest → (place + n ≤ length (areas_stream areas) → StandsIn sender left areas (place + n))
    → HasWrittenIn sender left areas place octets
written_in sender left areas place n rest octets within is fits part stands =
    let count : length octets ≡ n = ap length part ∙ length-take-le n rest fits in
    let reach : place + n ≤ length (areas_stream areas) =
    omega (arith, ap length is, length-drop place (areas_stream areas)) in
    record {
      stands = rw count (stands reach);
      next = rw count (part ∙ ap (take n) (sym is));
    }

-- octets of headers
pub headers_written : (s t : Sender) (left : List ℕ) (areas : List (List ℕ)) (place n : ℕ) (octets : List ℕ) →
    StandsIn s left areas place → n ≤ length (head_of s) → octets ≡ take n (head_of s)
    → head_of t ≡ drop n (head_of s) → t.scrambler ≡ s.scrambler → HasWrittenIn t left areas place octets
headers_written s t left areas place n octets stands fits part head scrambler =
    let area : List ℕ = drop (length stands.given) (scrambled_octets (stands.given ++ left)) in
    written_in t left areas place n (head_of s ++ area) octets stands.within stands.rest
    (omega (arith, length-append (head_of s) area))
    (part ∙ sym (take-append-le n (head_of s) area fits))
    (λ reach. record {
      within = reach;
      given = stands.given;
      scrambled = subst (λ scrambling. HasScrambled scrambling stands.given) (sym scrambler) stands.scrambled;
      parts = stands.parts;
      rest = sym (drop-drop n place (areas_stream areas)) ∙ ap (drop n) stands.rest
          ∙ drop-append-le n (head_of s) area fits ∙ ap (λ l. l ++ area) (sym head);
    })

-- octets that are scrambled in two parts
two_parts : (given first rest octets : List ℕ) → scrambled_octets (given ++ first) ≡ scrambled_octets given ++ octets
    → drop (length given) (scrambled_octets (given ++ (first ++ rest))) ≡ octets ++ drop (length (given ++ first))
    (scrambled_octets ((given ++ first) ++ rest))
two_parts given first rest octets is =
    let more : List ℕ = drop (length (given ++ first)) (scrambled_octets ((given ++ first) ++ rest)) in
    ap (λ l. drop (length given) (scrambled_octets l)) (sym (append_assoc given first rest))
    ∙ ap (drop (length given)) (scrambled_octets-append (given ++ first) rest ∙ ap (λ l. l ++ more) is
    ∙ append_assoc (scrambled_octets given) octets more)
    ∙ drop_at (scrambled_octets given) (octets ++ more) (length given) (length-scrambled_octets given)

-- octets of the area that is being sent
pub octets_written : (s t : Sender) (first rest : List ℕ) (areas : List (List ℕ)) (place : ℕ) (octets : List ℕ) →
    StandsIn s (first ++ rest) areas place → head_of s ≡ [] → head_of t ≡ []
    → ScramblesTo s.scrambler first octets → Continues s.scrambler t.scrambler first
    → HasWrittenIn t rest areas place octets
octets_written s t first rest areas place octets stands none done scrambled continues =
    let given = stands.given in
    let n = length octets in
    let more : List ℕ = drop (length (given ++ first)) (scrambled_octets ((given ++ first) ++ rest)) in
    let all : drop place (areas_stream areas) ≡ octets ++ more =
    stands.rest ∙ ap (λ head. head ++ drop (length given) (scrambled_octets (given ++ (first ++ rest)))) none
    ∙ two_parts given first rest octets (scrambled given stands.scrambled) in
    written_in t rest areas place n (octets ++ more) octets stands.within all
    (omega (arith, length-append octets more)) (sym (take_at octets more n refl))
    (λ reach. record {
      within = reach;
      given = given ++ first;
      scrambled = continues given stands.scrambled;
      parts = stands.parts ∙ sym (append_assoc given first rest);
      rest = sym (drop-drop n place (areas_stream areas)) ∙ ap (drop n) all ∙ drop_at octets more n refl
          ∙ ap (λ head. head ++ more) (sym done);
    })

-- ---- the next area is begun
pub area_begun : (s t : Sender) (front rest : List ℕ) (areas : List (List ℕ)) (place : ℕ) →
    StandsIn s [] areas place → head_of s ≡ [] → take 4 (head_of t) ≡ core_header (length front + length rest)
    → ScramblesTo s.scrambler front (drop 4 (head_of t)) → Continues s.scrambler t.scrambler front
    → StandsIn t rest (areas ++ (front ++ rest) ∷ []) place
area_begun s t front rest areas place stands head core scrambled continues =
    let given = stands.given in
    let area : List ℕ = front ++ rest in
    let before : joined areas ≡ given = stands.parts ∙ append-nil given in
    let end = all_written s areas place stands head in
    let more : List ℕ = drop (length (given ++ front)) (scrambled_octets ((given ++ front) ++ rest)) in
    let octets : List ℕ = core_header (length area) ++ drop (length (joined areas))
    (scrambled_octets (joined areas ++ area)) in
    let all : areas_stream (areas ++ area ∷ []) ≡ areas_stream areas ++ octets = areas_stream-push areas area in
    record {
      within = omega (arith, end, ap length all, length-append (areas_stream areas) octets);
      given = given ++ front;
      scrambled = continues given stands.scrambled;
      parts = joined-push areas area ∙ ap (λ l. l ++ area) before ∙ sym (append_assoc given front rest);
      rest = ap (drop place) all ∙ drop_at (areas_stream areas) octets place (sym end)
          ∙ ap (λ l. core_header (length area) ++ drop (length l) (scrambled_octets (l ++ area))) before
          ∙ ap₂ ◌++◌ (ap core_header (length-append front rest) ∙ sym core)
          (two_parts given front rest (drop 4 (head_of t)) (scrambled given stands.scrambled))
          ∙ sym (append_assoc (take 4 (head_of t)) (drop 4 (head_of t)) more)
          ∙ ap (λ l. l ++ more) (take-append-drop 4 (head_of t));
    }

-- an idle, whose area is empty
pub idle_begun : (s t : Sender) (areas : List (List ℕ)) (place : ℕ) → StandsIn s [] areas place → head_of s ≡ []
    → head_of t ≡ core_header 0 → t.scrambler ≡ s.scrambler → StandsIn t [] (areas ++ [] ∷ []) place
idle_begun s t areas place stands head core scrambler =
    let four = length-core_header 0 in
    area_begun s t [] [] areas place stands head (ap (take 4) core ∙ take_all 4 (core_header 0) (omega arith))
    (λ octets was. ap scrambled_octets (append-nil octets) ∙ sym (append-nil (scrambled_octets octets))
    ∙ ap (λ l. scrambled_octets octets ++ l) (sym (ap (drop 4) core ∙ drop_all 4 (core_header 0) (omega arith))))
    (λ octets was. subst (HasScrambled t.scrambler) (sym (append-nil octets))
    (subst (λ scrambling. HasScrambled scrambling octets) (sym scrambler) was))

-- ---- whole idles
joined-idles : (n : ℕ) → joined (replicate n []) ≡ []
joined-idles zero = refl
joined-idles (suc n) = joined-idles n

areas_behind-idles : (n : ℕ) (before : List ℕ) → areas_behind before (replicate n []) ≡ idles n
unfolding cut
areas_behind-idles zero before = refl
areas_behind-idles (suc n) before = ap (λ l. with_header [] ++ l) (areas_behind-idles n before)

pub idles_written : (n : ℕ) (s : Sender) (areas : List (List ℕ)) (place : ℕ) → StandsIn s [] areas place
    → head_of s ≡ [] → HasWrittenIn s [] (areas ++ replicate n []) place (idles n)
idles_written n s areas place stands head =
    let more : List (List ℕ) = replicate n [] in
    let size = length (idles n) in
    let end = all_written s areas place stands head in
    let all : areas_stream (areas ++ more) ≡ areas_stream areas ++ idles n =
    areas_stream-append areas more ∙ ap (λ l. areas_stream areas ++ l) (areas_behind-idles n (joined areas)) in
    let rest : drop place (areas_stream (areas ++ more)) ≡ idles n =
    ap (drop place) all ∙ drop_at (areas_stream areas) (idles n) place (sym end) in
    written_in s [] (areas ++ more) place size (idles n) (idles n)
    (omega (arith, end, ap length all, length-append (areas_stream areas) (idles n))) rest (omega arith)
    (sym (take_all size (idles n) (omega arith)))
    (λ reach. record {
      within = reach;
      given = stands.given;
      scrambled = stands.scrambled;
      parts = joined-append areas more ∙ ap (λ l. joined areas ++ l) (joined-idles n) ∙ append-nil (joined areas)
          ∙ stands.parts;
      rest = sym (drop-drop size place (areas_stream (areas ++ more))) ∙ ap (drop size) rest
          ∙ drop_all size (idles n) (omega arith) ∙ sym (drop_all place (areas_stream areas) (omega (arith, end)))
          ∙ stands.rest;
    })

-- ---- A queue whose oldest frame comes next: what stands when it is begun, and the laws of its stream.
-- a stream has as many octets as its pieces count
pub long : (pieces : List Piece) → length (stream_of pieces) ≡ size pieces
long pieces = length-stream_of pieces ∙ sum-map size_of pieces

pub oldest_first_laws : IsMultiplex oldest_first
oldest_first_laws = record {
  here = λ place stream within. reaching-here place place stream (omega (arith, within, long stream.pieces));
  next = λ place stream short. reached-next place stream (omega (arith, short, long stream.pieces));
  reach = λ place stream. omega (arith, (reached-fewest place stream).reach, long (reached place stream).pieces);
  join = reached-join;
  more = λ place stream. let fewest = reached-fewest place stream in
      (map area_of fewest.more, ap (map area_of) fewest.follow ∙ map-append area_of stream.pieces fewest.more);
}

-- the oldest frame is begun
pub oldest_begun : (sender : Sender) (queue rest : Held) (stream : Stream) (place : ℕ) →
    queue.waiting ≡ stream.waiting → queue.waiting ≡ rest.begun ∷ rest.waiting
    → StandsIn sender rest.begun (map area_of stream.pieces ++ (type_header ++ rest.begun) ∷ []) place
    → FillerStands sender rest (next_by stream.waiting stream.pieces) place
oldest_begun sender queue rest stream place waits oldest stands =
    subst (λ waiting. FillerStands sender rest (next_by waiting stream.pieces) place) (sym oldest ∙ waits)
    (record {
      waits = refl;
      octets = subst (λ areas. StandsIn sender rest.begun areas place)
          (sym (map-append area_of stream.pieces (client rest.begun ∷ []))) stands;
    })

-- a filler and a place in a stream tell the queue
pub one_queue : (sender : Sender) (queue other : Held) (stream : Stream) (place : ℕ) →
    FillerStands sender queue stream place → FillerStands sender other stream place → other ≡ queue
one_queue sender queue other stream place one two =
    let made : List (List ℕ) → List ℕ → Held = λ waiting begun. record { waiting = waiting; begun = begun } in
    ap₂ made (two.waits ∙ sym one.waits)
    (one_left sender queue.begun other.begun (map area_of stream.pieces) place one.octets two.octets)

-- ---- What one step of a fill does to what stands, and how steps follow one another.
module _ {Queue Stream : Type 0} (order : Multiplex Queue Stream) (laws : IsMultiplex order) where
  -- ---- one step
  -- octets of pieces that are begun already
  pub here_written : (sender : Sender) (queue : Queue) (stream : Stream) (place : ℕ) (octets : List ℕ) →
      order.waits queue stream → HasWrittenIn sender (order.begun queue) (order.areas stream) place octets
      → HasWritten order sender queue stream place octets
  here_written sender queue stream place octets waits written =
      let same = laws.here (place + length octets) stream written.stands.within in
      record { stands = rw same (record { waits = waits; octets = written.stands }); next = rw same written.next }

  -- and of one more, where these end before the octets do
  pub next_written : (sender : Sender) (queue : Queue) (stream : Stream) (place : ℕ) (octets : List ℕ) →
      length (octets_of order stream) < place + length octets
      → HasWritten order sender queue (order.next stream) place octets
      → HasWritten order sender queue stream place octets
  next_written sender queue stream place octets short written =
      let same = laws.next (place + length octets) stream short in
      record { stands = rw same written.stands; next = rw same written.next }

  -- idles, where no frame waits
  pub idles_next : (n : ℕ) (sender : Sender) (queue : Queue) (stream : Stream) (place : ℕ) (octets : List ℕ) →
      NoneWaits order queue → order.waits queue stream
      → place + length octets ≤ length (octets_of order stream) + 4 * n
      → length (octets_of order stream) + 4 * n < place + length octets + 4
      → HasWrittenIn sender (order.begun queue) (order.areas stream ++ replicate n []) place octets
      → HasWritten order sender queue stream place octets
  idles_next zero sender queue stream place octets none waits within few written =
      here_written sender queue stream place octets waits
      (subst (λ areas. HasWrittenIn sender (order.begun queue) areas place octets)
      (append-nil (order.areas stream)) written)
  idles_next (suc n) sender queue stream place octets none waits within few written =
      let areas : List (List ℕ) = order.areas stream in
      let idle = none stream waits in
      let four : length (octets_of order (order.next stream)) ≡ length (octets_of order stream) + 4 =
      ap (λ l. length (areas_stream l)) idle.1
      ∙ ap length (areas_stream-append areas ([] ∷ []))
      ∙ length-append (areas_stream areas) (areas_behind (joined areas) ([] ∷ []))
      ∙ ap (λ k. length (areas_stream areas) + k) (length-areas_behind (joined areas) ([] ∷ [])) in
      next_written sender queue stream place octets (omega arith)
      (idles_next n sender queue (order.next stream) place octets none idle.0 (omega (arith, four))
      (omega (arith, four))
      (subst (λ l. HasWrittenIn sender (order.begun queue) l place octets)
      (sym (ap (λ l. l ++ replicate n []) idle.1 ∙ append_assoc areas ([] ∷ []) (replicate n []))) written))

  -- ---- steps, one after another
  -- octets that are written stand in the stream of a later place
  still_next : (stream : Stream) (place n later : ℕ) → place + n ≤ later →
      take n (drop place (octets_of order (order.reached later stream)))
      ≡ take n (drop place (octets_of order (order.reached (place + n) stream)))
  still_next stream place n later behind =
      let sooner = order.reached (place + n) stream in
      let rest = laws.more later sooner in
      ap (λ s. take n (drop place (octets_of order s))) (sym (laws.join (place + n) later stream behind))
      ∙ ap (λ l. take n (drop place l))
      (ap areas_stream rest.1 ∙ areas_stream-append (order.areas sooner) rest.0)
      ∙ within-append place n (octets_of order sooner) (areas_behind (joined (order.areas sooner)) rest.0)
      (laws.reach (place + n) stream)

  pub written-both : (s t : Sender) (queue rest : Queue) (stream : Stream) (place : ℕ) (first more : List ℕ) →
      HasWritten order s queue stream place first
      → HasWritten order t rest (order.reached (place + length first) stream) (place + length first) more →
      HasWritten order t rest stream place (first ++ more)
  written-both s t queue rest stream place first more one other =
      let a = length first in
      let b = length more in
      let size : length (first ++ more) ≡ a + b = length-append first more in
      let count : place + length (first ++ more) ≡ place + a + b = omega (arith, size) in
      let same : order.reached (place + a + b) (order.reached (place + a) stream)
      ≡ order.reached (place + a + b) stream = laws.join (place + a) (place + a + b) stream (omega arith) in
      let octets : List ℕ = octets_of order (order.reached (place + a + b) stream) in
      let front : first ≡ take a (drop place octets) =
      one.next ∙ sym (still_next stream place a (place + a + b) (omega arith)) in
      let back : more ≡ take b (drop (place + a) octets) =
      other.next ∙ ap (λ s. take b (drop (place + a) (octets_of order s))) same in
      let cut : take (a + b) (drop place octets) ≡ take a (drop place octets) ++ take b (drop (place + a) octets) =
      take-add a b (drop place octets)
      ∙ ap (λ l. take a (drop place octets) ++ take b l) (drop-drop a place octets) in
      record {
        stands = rw count (rw same at other.stands);
        next = rw (count, size) (ap₂ ◌++◌ front back ∙ sym cut);
      }

  -- nothing is written
  pub written-none : (s : Sender) (queue : Queue) (stream : Stream) (place : ℕ) →
      Stands order s queue stream place → HasWritten order s queue stream place []
  written-none s queue stream place stands =
      let same : place + 0 ≡ place = omega arith in
      here_written s queue stream place [] stands.waits (record { stands = rw same stands.octets; next = refl })
