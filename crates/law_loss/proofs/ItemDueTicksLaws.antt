-- What lands of items: their due ticks, and their octets.
use Rattle.std.proofs.Common.{◌≡◌, ℕ, zero, suc, ◌<◌, ◌≤◌, List, [], ◌∷◌, ◌++◌, map, slice_index_or, ap, sym, subst}
use Rattle.std.proofs.Common.{refl, arith, All}
use Rattle.std.specs.List.Sorted.{IsNonDecreasing, IsNonDecreasingBy}
use Rattle.std.proofs.lemmas.List.{length-map, get_or-map}
use Rattle.std.proofs.lemmas.List.Elements.{All-append, All-cons}
use Rattle.law_model.specs.Common.{Leg, DueCommand, DueFrame, order_of, offer_of, orders_of, offers_of, scenario_by}
use Rattle.law_model.specs.Common.{due_of, dues_of, frame_dues, command_dues, IsKind, IsItem, IsSound}
use Rattle.law_model.specs.declared.script_types.Item.{Item}
use Rattle.law_model.specs.declared.script_types.ItemKind.{ItemKind}
use Rattle.law_model.specs.declared.script_types.ItemKind.TheVariants.{Frame, Add, Remove}
use Rattle.law_loss.specs.CarriedStream.{AreOctets}

-- What lands of items: their due ticks, and their octets.
-- ---- due ticks
one_order : (due : ℕ) (kind : ItemKind) (items : List Item) →
    map (λ (order : DueCommand). order.due) (orders_of items) ≡ command_dues (dues_of items)
    → map (λ (order : DueCommand). order.due) (order_of due kind ++ orders_of items) ≡ command_dues
    (due_of due kind ∷ dues_of items)
unfolding command_dues
one_order due (Frame octets) items rest = rest
one_order due (Add line) items rest = ap (λ (dues : List ℕ). due ∷ dues) rest
one_order due (Remove line) items rest = ap (λ (dues : List ℕ). due ∷ dues) rest

pub order_dues : (items : List Item) →
    map (λ (order : DueCommand). order.due) (orders_of items) ≡ command_dues (dues_of items)
unfolding command_dues
order_dues [] = refl
order_dues (item ∷ items) = one_order item.due item.kind items (order_dues items)

one_offer : (due : ℕ) (kind : ItemKind) (items : List Item) →
    map (λ (offer : DueFrame). offer.due) (offers_of items) ≡ frame_dues (dues_of items)
    → map (λ (offer : DueFrame). offer.due) (offer_of due kind ++ offers_of items) ≡ frame_dues
    (due_of due kind ∷ dues_of items)
unfolding frame_dues
one_offer due (Frame octets) items rest = ap (λ (dues : List ℕ). due ∷ dues) rest
one_offer due (Add line) items rest = rest
one_offer due (Remove line) items rest = rest

pub offer_dues : (items : List Item) →
    map (λ (offer : DueFrame). offer.due) (offers_of items) ≡ frame_dues (dues_of items)
unfolding frame_dues
offer_dues [] = refl
offer_dues (item ∷ items) = one_offer item.due item.kind items (offer_dues items)

rises_by : {X : Type 0} (n : X → ℕ) (xs : List X) → IsNonDecreasing (map n xs) → IsNonDecreasingBy n xs
rises_by n xs rise i j d before within =
    let less = rise i j (n d) before (let size = length-map xs n in omega (arith, within, size)) in
    subst (λ (m : ℕ). m ≤ n (slice_index_or xs j d)) (get_or-map n xs i d (n d) (omega (arith, before, within)))
    (subst (λ (m : ℕ). slice_index_or (map n xs) i (n d) ≤ m) (get_or-map n xs j d (n d) within) less)

pub orders_rise : (items : List Item) → IsNonDecreasing (command_dues (dues_of items)) →
    IsNonDecreasingBy (λ (order : DueCommand). order.due) (orders_of items)
orders_rise items rise = rises_by (λ (order : DueCommand). order.due) (orders_of items)
    (subst IsNonDecreasing (sym (order_dues items)) rise)

pub offers_rise : (items : List Item) → IsNonDecreasing (frame_dues (dues_of items)) →
    IsNonDecreasingBy (λ (offer : DueFrame). offer.due) (offers_of items)
offers_rise items rise = rises_by (λ (offer : DueFrame). offer.due) (offers_of items)
    (subst IsNonDecreasing (sym (offer_dues items)) rise)

-- ---- octets
abbrev IsOffer : DueFrame → Type 0
IsOffer offer = All (λ octet. octet < 256) offer.frame

none : All IsOffer []
none i d within = absurd (omega arith)

one_frame : (due : ℕ) (kind : ItemKind) → IsKind kind → All IsOffer (offer_of due kind)
one_frame due (Frame octets) is = All-cons IsOffer (record { due = due; frame = octets }) [] is.1 none
one_frame due (Add line) is = none
one_frame due (Remove line) is = none

offers_octets : (ticks : ℕ) (items : List Item) → All (IsItem ticks) items → All IsOffer (offers_of items)
offers_octets ticks [] are = none
offers_octets ticks (item ∷ items) are =
    All-append IsOffer (offer_of item.due item.kind) (offers_of items)
    (one_frame item.due item.kind (are zero item (omega arith)).1)
    (offers_octets ticks items (λ i d within. are (suc i) d (omega arith)))

pub are_octets : (leg : Leg) → IsSound leg → AreOctets (scenario_by leg)
are_octets leg sound = offers_octets leg.config.ticks leg.items sound.items.each
