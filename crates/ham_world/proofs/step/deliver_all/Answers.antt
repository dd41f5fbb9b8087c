use Rattle.std.proofs.Common.{◌≡◌, ◌+◌, ◌<◌, ◌≤◌, length, refl, sym, ap, ◌∙◌, arith}
use Rattle.std.proofs.lemmas.List.FromFn.{take-map-range_with_len}
use Rattle.ham_runs.specs.Next.Input.{Deliver}
use Rattle.ham_turns.specs.Settings.{setting_of}
use Rattle.ham_world.specs.Keeping.{notes_of}
use Rattle.ham_world.specs.Worlds.{taken}
use Rattle.ham_world.proofs.Events.{more_comes, more_link, taken-none}
use Rattle.std.proofs.lemmas.Option.{slice_get_read}
use Rattle.ham_world.proofs.step.deliver_all.Goals as goal

pub returns-in-Err-clause-halts : goal.returns-in-Err-clause-halts
returns-in-Err-clause-halts c =
    let le : c.loop-i.i ≤ length c.args.frames.now = omega arith in
    record {
      made = c.loop-i.i;
      kept_is = rw c.in-Err.ensures.notes c.loop-i.invariant.comes.kept_is;
      run = rw c.in-Err.ensures.notes (c.loop-i.invariant.comes.run
          ∙ ap (taken c.args.parts.now.object (setting_of c.args.parts.now.plan) (notes_of c.args.parts.now.object c.args.parts.now.plan c.args.parts.now.notes.items)) (sym (take-map-range_with_len (Deliver c.args.at c.args.from) c.args.first (length c.args.frames.now) c.loop-i.i le)));
    }

pub loop-i-preserved : goal.loop-i-preserved
loop-i-preserved c = record {
  object = c.in-Ok.ensures.object ∙ c.loop-i.invariant.object;
  plan = c.in-Ok.ensures.plan ∙ c.loop-i.invariant.plan;
  comes = more_comes c.args.parts.now.object c.loop-i.parts.object c.args.parts.now.plan c.loop-i.parts.plan c.loop-i.invariant.object c.loop-i.invariant.plan
      _ _ _ _ _ _ c.args.parts.now.notes.items c.loop-i.parts.notes.items c.deliver.new.parts.notes.items _ c.deliver.new.parts.sent c.args.at c.args.from c.args.first c.loop-i.i c.index-frames-i.result
      c.loop-i.invariant.comes c.in-Ok.ensures.goes;
  link = more_link c.args.parts.now.object c.loop-i.parts.object c.args.parts.now.plan c.loop-i.parts.plan c.loop-i.invariant.object c.loop-i.invariant.plan
      _ _ _ c.loop-i.parts.notes.items c.deliver.new.parts.notes.items c.deliver.new.parts.sent c.args.at c.args.from (c.args.first + c.loop-i.i) c.index-frames-i.result c.requires.other c.in-Ok.ensures.goes
      ∙ c.loop-i.invariant.link;
  few = omega (arith, c.in-Ok.ensures.sent, c.loop-i.invariant.few);
}

pub loop-i-init : goal.loop-i-init
loop-i-init c = record {
  object = refl;
  plan = refl;
  comes = record { keeps = c.requires.keeps; kept_is = c.requires.kept; run = sym (taken-none c.args.parts.now.object (setting_of c.args.parts.now.plan) (notes_of c.args.parts.now.object c.args.parts.now.plan c.args.parts.now.notes.items)); count = omega arith };
  link = refl;
  few = omega arith;
}

pub deliver-requires-clause-there : goal.deliver-requires-clause-there
deliver-requires-clause-there c =
    let lt : c.loop-i.i < length c.args.frames.now = omega arith in
    rw (c.loop-i.invariant.object, c.loop-i.invariant.plan, c.loop-i.invariant.link)
    (c.requires.there c.loop-i.i c.index-frames-i.result (slice_get_read c.args.frames.now (length c.args.frames.now) c.loop-i.i c.index-frames-i.result refl lt c.index-frames-i.is))
