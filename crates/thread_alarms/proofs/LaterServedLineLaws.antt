-- Served lines, posts and logs at later moments: the same ones, and what was told of them.
use Rattle.std.proofs.Common.{◌≡◌, ℕ, zero, suc, ◌≤◌, List, [], ◌∷◌, ◌++◌, map, length, slice_get, Option, Some, None}
use Rattle.std.proofs.Common.{refl, sym, ◌∙◌, ap, subst, arith, ◌+◌, option_to_list, MatchOption, append_assoc}
use Rattle.std.proofs.Common.{append-nil}
use Rattle.std.specs.List.{AllZip}
use Rattle.thread_rings.specs.declared.line_worker.LineWorker.{LineWorker}
use Rattle.thread_rings.specs.WorkerOfLine.{raised_by, IsLater}
use Rattle.thread_rings.proofs.LineWorkerAlarmsLaws.{later-refl, later-then}
use Rattle.thread_alarms.specs.declared.alarm_log.alarm_post.AlarmPost.{AlarmPost}
use Rattle.thread_alarms.specs.alarm_log.Posts.{posted_by, SamePost}
use Rattle.thread_alarms.specs.declared.watched_line.served_line.ServedLine.{ServedLine}
use Rattle.thread_alarms.specs.watched_line.ServedWithPosts.{worker_of, post_of, posts_of, IsPostLater, IsServedLater}
use Rattle.thread_alarms.specs.watched_line.ServedWithPosts.{AreServedLater, AreTold, MayWatch, AreWatchable}
use Rattle.thread_alarms.specs.declared.alarm_log.log_turns.AlarmLog.{AlarmLog}
use Rattle.thread_alarms.specs.alarm_log.Logs.{SameLog}

-- ---- Lines that are served are later than themselves, and than what they were later than; and what is so of their workers
-- and posts.
pub post-refl : (a : AlarmPost) → SamePost a a
post-refl a = record { number = refl; most = refl; log = refl; posts = refl; room = refl }

pub post-then : (a b c : AlarmPost) → SamePost a b → SamePost b c → SamePost a c
post-then a b c s t = record {
  number = t.number ∙ s.number;
  most = t.most ∙ s.most;
  log = t.log ∙ s.log;
  posts = t.posts ∙ s.posts;
  room = t.room ∙ s.room;
}

pub post-same : (a : Option AlarmPost) → IsPostLater a a
post-same None = tt
post-same (Some a) = post-refl a

post-later : (a b c : Option AlarmPost) → IsPostLater a b → IsPostLater b c → IsPostLater a c
post-later None None None s t = tt
post-later None None (Some c) s t = absurd t
post-later None (Some b) c s t = absurd s
post-later (Some a) None c s t = absurd s
post-later (Some a) (Some b) None s t = absurd t
post-later (Some a) (Some b) (Some c) s t = post-then a b c s t

pub served-refl : (a : ServedLine) → IsServedLater a a
served-refl a = record { worker = later-refl (worker_of a); post = post-same (post_of a) }

pub served-then : (a b c : ServedLine) → IsServedLater a b → IsServedLater b c → IsServedLater a c
served-then a b c s t = record {
  worker = later-then (worker_of a) (worker_of b) (worker_of c) s.worker t.worker;
  post = post-later (post_of a) (post_of b) (post_of c) s.post t.post;
}

-- ---- the workers and the posts of lines that are later
pub workers-later : (old new : List ServedLine) → AreServedLater old new →
    AllZip IsLater (map worker_of old) (map worker_of new)
workers-later [] [] later = tt
workers-later [] (b ∷ bs) later = absurd later
workers-later (a ∷ as_) [] later = absurd later
workers-later (a ∷ as_) (b ∷ bs) later = (later.0.worker, workers-later as_ bs later.1)

posts-front : (a b : Option AlarmPost) (as_ bs : List AlarmPost) → IsPostLater a b → AllZip SamePost as_ bs →
    AllZip SamePost (option_to_list a ++ as_) (option_to_list b ++ bs)
posts-front None None as_ bs one rest = rest
posts-front None (Some b) as_ bs one rest = absurd one
posts-front (Some a) None as_ bs one rest = absurd one
posts-front (Some a) (Some b) as_ bs one rest = (one, rest)

pub posts-later : (old new : List ServedLine) → AreServedLater old new → AllZip SamePost (posts_of old) (posts_of new)
posts-later [] [] later = tt
posts-later [] (b ∷ bs) later = absurd later
posts-later (a ∷ as_) [] later = absurd later
posts-later (a ∷ as_) (b ∷ bs) later =
    posts-front (post_of a) (post_of b) (posts_of as_) (posts_of bs) later.0.post (posts-later as_ bs later.1)

-- ---- one line more
grouped : (a : Option AlarmPost) (xs ys : List AlarmPost) →
    option_to_list a ++ (xs ++ ys) ≡ (option_to_list a ++ xs) ++ ys
grouped None xs ys = refl
grouped (Some a) xs ys = refl

pub posts-more : (lines : List ServedLine) (line : ServedLine) (rest : List AlarmPost) →
    posts_of (lines ++ line ∷ []) ++ rest ≡ posts_of lines ++ (option_to_list (post_of line) ++ rest)
posts-more [] line rest = sym (grouped (post_of line) [] rest)
posts-more (x ∷ lines) line rest =
    sym (grouped (post_of x) (posts_of (lines ++ line ∷ [])) rest)
    ∙ ap (λ l. option_to_list (post_of x) ++ l) (posts-more lines line rest)
    ∙ grouped (post_of x) (posts_of lines) (option_to_list (post_of line) ++ rest)

-- ---- where each line is watched, what was posted are the alarms of the worker
no-more : (lines : List ServedLine) → length (posts_of lines) ≤ length (map worker_of lines)
no-more [] = omega arith
no-more (line ∷ lines) = let rest = no-more lines in
    elim (post_of line) as (λ o. length (option_to_list o ++ posts_of lines) ≤ suc (length (map worker_of lines))) [
      | None ↦ omega (arith, rest)
      | Some post ↦ omega (arith, rest)
    ]

zip-cons : {A B : Type 0} (R : A → B → Type 0) (a : A) (b : B) (as_ : List A) (bs : List B) → R a b →
    ((m : ℕ) (x : A) (y : B) → slice_get as_ m ≡ Some x → slice_get bs m ≡ Some y → R x y) →
    (m : ℕ) (x : A) (y : B) → slice_get (a ∷ as_) m ≡ Some x → slice_get (b ∷ bs) m ≡ Some y → R x y
zip-cons R a b as_ bs first rest zero x y there here =
    let e : a ≡ x = cc in
    let f : b ≡ y = cc in
    subst (λ z. R z y) e (subst (R a) f first)
zip-cons R a b as_ bs first rest (suc m) x y there here = rest m x y there here

told-front : (line : ServedLine) (lines : List ServedLine) (own : Option AlarmPost) → post_of line ≡ own →
    length (option_to_list own ++ posts_of lines) ≡ suc (length (map worker_of lines)) →
    (length (posts_of lines) ≡ length (map worker_of lines) → AreTold (map worker_of lines) (posts_of lines)) →
    AreTold (map worker_of (line ∷ lines)) (option_to_list own ++ posts_of lines)
told-front line lines None is size rest = absurd (let few = no-more lines in omega (arith, size, few))
told-front line lines (Some own) is size rest =
    zip-cons (λ (worker : LineWorker) (post : AlarmPost). posted_by post ≡ raised_by worker) (worker_of line) own
    (map worker_of lines) (posts_of lines)
    (line.told own is) (rest (omega (arith, size)))

pub are-told : (lines : List ServedLine) → length (posts_of lines) ≡ length (map worker_of lines) →
    AreTold (map worker_of lines) (posts_of lines)
are-told [] size = λ m worker post there here. absurd cc
are-told (line ∷ lines) size = told-front line lines (post_of line) refl size (are-told lines)

-- ---- lists of which the first are gone
pub next-watch : (workers : List LineWorker) (posts : List AlarmPost) (w : LineWorker) (p : AlarmPost)
    (ws : List LineWorker) (ps : List AlarmPost) →
    workers ≡ w ∷ ws → posts ≡ p ∷ ps → AreWatchable workers posts → MayWatch w p × AreWatchable ws ps
next-watch workers posts w p ws ps is is' may = (
  may 0 w p (ap (λ l. slice_get l 0) is) (ap (λ l. slice_get l 0) is'),
  (λ m worker post there here. may (suc m) worker post (ap (λ l. slice_get l (suc m)) is ∙ there)
      (ap (λ l. slice_get l (suc m)) is' ∙ here)),
)

pub no-watch : (workers : List LineWorker) (posts : List AlarmPost) → posts ≡ [] → AreWatchable workers posts
no-watch workers posts none m worker post there here =
    absurd (let h : None ≡ Some post = ap (λ l. slice_get l m) (sym none) ∙ here in cc)

pub rest-watch : (o : Option AlarmPost) (workers : List LineWorker) (posts : List AlarmPost) (w : LineWorker)
    (ws : List LineWorker) (ps : List AlarmPost) →
    workers ≡ w ∷ ws → posts ≡ option_to_list o ++ ps → (o ≡ None → ps ≡ []) → AreWatchable workers posts →
    AreWatchable ws ps
rest-watch None workers posts w ws ps is is' none may = no-watch ws ps (none refl)
rest-watch (Some p) workers posts w ws ps is is' none may = (next-watch workers posts w p ws ps is is' may).1

pub none-left : (o : Option AlarmPost) (n k : ℕ) (B : AlarmPost → Type 0) → MatchOption o ((n ≡ 0) × (k ≡ 0)) B →
    o ≡ None → k ≡ 0
none-left None n k B counts is = counts.1
none-left (Some p) n k B counts is = absurd cc

pub few-left : (o : Option AlarmPost) (n k posts ps workers ws : ℕ) (B : AlarmPost → Type 0) →
    MatchOption o ((n ≡ 0) × (k ≡ 0)) B →
    posts ≡ n → ps ≡ k → k + length (option_to_list o) ≡ n → posts ≤ workers → workers ≡ suc ws → ps ≤ ws
few-left None n k posts ps workers ws B counts is is' sum few one = omega (arith, is', counts.1)
few-left (Some p) n k posts ps workers ws B counts is is' sum few one = omega (arith, is, is', sum, few, one)

-- ---- One log at more than two moments.
pub same-log : (a : AlarmLog) → SameLog a a
same-log a = record { queue = refl; posts = refl; most = refl }

pub same-then : (a b c : AlarmLog) → SameLog a b → SameLog b c → SameLog a c
same-then a b c s t = record { queue = t.queue ∙ s.queue; posts = t.posts ∙ s.posts; most = t.most ∙ s.most }

abbrev pub Grown : {A : Type 0} → List A → List A → Type 0
Grown {A} xs ys = (more : List A) × (ys ≡ xs ++ more)

pub grown-none : {A : Type 0} (xs : List A) → Grown xs xs
grown-none xs = ([], sym (append-nil xs))

pub grown-then : {A : Type 0} (xs ys zs : List A) → Grown xs ys → Grown ys zs → Grown xs zs
grown-then xs ys zs g h = (g.0 ++ h.0, h.1 ∙ ap (λ l. l ++ h.0) g.1 ∙ append_assoc xs g.0 h.0)
