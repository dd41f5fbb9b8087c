use Rattle.std.proofs.Common.{◌≡◌, ℕ, ◌<◌, length, sym, subst, ap, ◌∙◌, arith}
use Rattle.std.proofs.lemmas.Bool.{leb-false}
use Rattle.ham_site.specs.Sites.{setting_at}
use Rattle.ham_replica.specs.Values.{words}
use Rattle.ham_replica.specs.Shown.{lists_of}
use Rattle.ham_replica.proofs.Refusing.{accepted_here}
use Rattle.ham_replica.proofs.issue.issue_in.Goals as goal

pub returns-in-Ok : goal.returns-in-Ok
returns-in-Ok c =
    let y = setting_at c.args.site.now in
    let lane : c.lane_of-lane.result ≡ y.lane c.args.act.now.method c.args.site.now.me = c.lane_of-lane.ensures ∙ ap (y.lane c.args.act.now.method) c.me.ensures.me in
    let exists : c.args.act.now.method < y.methods = let all = c.methods.ensures in let below = c.if-act-methods.false in omega arith in
    let mine : y.decider (y.lane c.args.act.now.method c.args.site.now.me) ≡ c.args.site.now.me =
    ap y.decider (sym lane) ∙ sym c.decider_of.ensures ∙ c.if-decider_of-me.false ∙ c.me-2.ensures.me in
    let room = leb-false 65536 _ (sym c.is_full-full.ensures ∙ c.if-full.false) in
    record {
      accepted = accepted_here c.args.site.now (words (lists_of c.args.held.now)) c.args.act.now exists (sym c.args_fit.ensures.fits ∙ c.if-not-args_fit.false) mine
          (subst (λ (l : ℕ). length ((words (lists_of c.args.held.now)).decided l) < 65536) lane room);
      frame = c.args_fit.ensures.frame c.if-not-args_fit.false;
      answers = c.in-Ok.ensures;
    }
