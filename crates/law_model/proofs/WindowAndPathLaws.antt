-- What a window at the front of a list does to a container, and the cells of a path that goes on.
use Rattle.std.proofs.Common.{◌≡◌, ℕ, suc, ◌+◌, ◌<◌, ◌≤◌, ◌&&◌, nat_le, nat_lt, true, false, List, [], ◌∷◌, ◌++◌}
use Rattle.std.proofs.Common.{length, refl, sym, ◌∙◌, ap, arith, append_assoc}
use Rattle.law_model.specs.Common.{Container, carried_in, cells_of, path}
use Rattle.law_model.specs.declared.window_types.Window.{Window}
use Rattle.law_model.specs.declared.window_types.Carried.{Carried}
use Rattle.law_model.specs.members.Damage.{carried}

-- What a window at the front of a list does to a container, and the cells of a path that goes on.
pub carried-in : (window : Window) (windows : List Window) (n : ℕ) → window.first ≤ n → n < window.end →
    carried (window ∷ windows) n ≡ carried_in window n
unfolding carried
carried-in window windows n low high =
    let inside : (nat_le window.first n && nat_lt n window.end) ≡ true = grind (arith, low, high) in rw inside refl

pub carried-before : (window : Window) (windows : List Window) (n : ℕ) → n < window.first →
    carried (window ∷ windows) n ≡ carried windows n
unfolding carried
carried-before window windows n low =
    let outside : (nat_le window.first n && nat_lt n window.end) ≡ false = grind (arith, low) in rw outside refl

pub carried-after : (window : Window) (windows : List Window) (n : ℕ) → window.end ≤ n →
    carried (window ∷ windows) n ≡ carried windows n
unfolding carried
carried-after window windows n high =
    let outside : (nat_le window.first n && nat_lt n window.end) ≡ false = grind (arith, high) in rw outside refl

pub path-append : (carries : ℕ → Carried) (n : ℕ) (xs ys : List Container) →
    path carries n (xs ++ ys) ≡ path carries n xs ++ path carries (n + length xs) ys
unfolding path
path-append carries n [] ys = ap (λ n. path carries n ys) (let e : n ≡ n + 0 = omega arith in e)
path-append carries n (x ∷ xs) ys =
    ap (λ l. cells_of (carries n) x ++ l) (path-append carries (suc n) xs ys
    ∙ ap (λ m. path carries (suc n) xs ++ path carries m ys)
    (let e : suc n + length xs ≡ n + suc (length xs) = omega arith in e))
    ∙ sym (append_assoc (cells_of (carries n) x) (path carries (suc n) xs) (path carries (n + suc (length xs)) ys))
