use Rattle.std.proofs.Common.{◌++◌, ◌∷◌, [], ◌∙◌, sym, ap, subst, map}
use Rattle.std.proofs.lemmas.List.{map_push, take_more}
use Rattle.ham_steps.specs.Content.{opening}
use Rattle.ham_watch.specs.declared.watch.Watch.{Watch}
use Rattle.ham_watch.specs.Watches.{IsWatch, HasRoomIn, AreWatches, HaveRoom}
use Rattle.ham_content.proofs.Each.{each_push}
use Rattle.ham_watch.proofs.opened.watches.Goals as goal

pub loop-invariant-preserved : goal.loop-invariant-preserved
loop-invariant-preserved c = record {
  watched = subst (λ xs. AreWatches opening xs) (sym c.in_ok-push.ensures.items) (each_push (IsWatch opening) c.loop-invariant.watches.items c.watch.result c.loop-invariant.invariant.watched c.watch.ensures.watched);
  room = subst (λ xs. HaveRoom 0 xs) (sym c.in_ok-push.ensures.items) (each_push (HasRoomIn 0) c.loop-invariant.watches.items c.watch.result c.loop-invariant.invariant.room c.watch.ensures.room);
  invariants =
      ap (map (λ (w : Watch). w.invariant)) c.in_ok-push.ensures.items
      ∙ map_push (λ (w : Watch). w.invariant) c.loop-invariant.watches.items c.watch.result
      ∙ (λ j. c.loop-invariant.invariant.invariants j ++ (c.watch.ensures.invariant ∙ c.invariant-item.is) j ∷ [])
      ∙ sym (take_more c.args.invariants.now c.loop-invariant.invariant-index c.invariant-item.result c.loop-invariant-test.true);
}
