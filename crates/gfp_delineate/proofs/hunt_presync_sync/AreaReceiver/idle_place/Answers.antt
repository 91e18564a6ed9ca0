-- The octets of a header in the window are the first ones of an idle's, or they aren't.
use Rattle.std.proofs.Common.{true, false, Some, ◌≡◌, ◌-◌, ◌<◌, ℕ, take, drop, sym, ◌∙◌, ap, subst, arith, vec_len}
use Rattle.gfp_delineate.specs.declared.hunt_presync_sync.Phase.TheVariants.{SyncHeader}
use Rattle.gfp_delineate.specs.ReceivedAreas.{Progress, IsWithin, header_begun_in}
use Rattle.law_model.proofs.CoreHeaderLaws.{idle_header, core_header-idle}
use Rattle.law_model.specs.Common.{core_header}
use Rattle.gfp_delineate.proofs.ReceiverProgressLaws.{told}
use Rattle.gfp_delineate.proofs.OctetPieceAndIdleRunLaws.{Takes-idles_from}
use Rattle.gfp_delineate.proofs.hunt_presync_sync.AreaReceiver.idle_place.Goals as goal

pub returns-in-SyncHeader : goal.returns-in-SyncHeader
returns-in-SyncHeader c =
    let now : Progress = c.args.self.now in
    let have : ℕ = c.in-SyncHeader.have in
    let part : have < 4 = subst (λ phase. IsWithin phase (vec_len c.self.inside.area) c.self.inside.longest)
    c.in-SyncHeader.is c.self.invariant.bounds in
    let was : now.phase ≡ SyncHeader have =
    ap (λ (receiver : Progress). receiver.phase) (sym c.self.view_is) ∙ c.in-SyncHeader.is in
    let begins : drop (4 - have) now.window ≡ take have idle_header =
    ap (λ (receiver : Progress). drop (4 - have) receiver.window) (sym c.self.view_is)
    ∙ c.begins_idle.ensures.begun c.if-begins_idle.true in
    record {
      below = omega (arith, part, c.from.ensures);
      idle = ap (λ phase. header_begun_in phase now.window) was
          ∙ ap (λ l. Some l) (begins ∙ ap (take have) (sym core_header-idle) ∙ ap (λ n. take n (core_header 0))
          (sym c.from.ensures));
      none = tt;
      stays = λ count. rw c.from.ensures (told _ _ _ _ (Takes-idles_from now have part was begins count));
    }

pub returns-in_default-clause-none : goal.returns-in_default-clause-none
returns-in_default-clause-none c = λ place same.
    let now : Progress = c.args.self.now in
    let have : ℕ = c.in-SyncHeader.have in
    let was : now.phase ≡ SyncHeader have =
    ap (λ (receiver : Progress). receiver.phase) (sym c.self.view_is) ∙ c.in-SyncHeader.is in
    let some : Some (drop (4 - have) now.window) ≡ Some (take place (core_header 0)) =
    sym (ap (λ phase. header_begun_in phase now.window) was) ∙ same in
    let came : drop (4 - have) now.window ≡ take place (core_header 0) = cc in
    let alike : drop (4 - have) c.self.inside.window ≡ take place idle_header =
    ap (λ (receiver : Progress). drop (4 - have) receiver.window) c.self.view_is ∙ came
    ∙ ap (take place) core_header-idle in
    let yes : c.begins_idle.result ≡ true = c.begins_idle.ensures.all place alike in
    let no : c.begins_idle.result ≡ false = c.if-begins_idle.false in
    cc
