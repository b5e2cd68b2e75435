use Rattle.std.proofs.Common.{◌≡◌, false, nat_eq, Some, sym, ap, ◌∙◌, subst, arith}
use Rattle.std.proofs.Math.Logic.{∥∥₁_elim}
use Rattle.std.proofs.lemmas.Bool.Decides.{nat_tests}
use Rattle.std.specs.Coded.{Coded-set, coded_bool, coded_ℕ}
use Rattle.pcm_base.specs.declared.reply.Reply.TheVariants as reply
use Rattle.pcm_base.specs.declared.reply.Told.{Told as Shown}
use Rattle.pcm_base.specs.declared.state.State.{State}
use Rattle.pcm_base.specs.model.World.{Told, World, empty, link_refusal}
use Rattle.pcm_world.specs.Calls.{stream_at}
use Rattle.pcm_world.specs.Groups.{GroupsStand}
use Rattle.pcm_world.specs.Shown.{shown}
use Rattle.pcm_world.proofs.RefusalLemmas.{granted-by, is-granted, link-refused, numbers-of, only-one, open-held, refused-by}
use Rattle.pcm_world.proofs.links.link.Goals as goal

pub returns-in-Err-clause-told : goal.returns-in-Err-clause-told
returns-in-Err-clause-told c = λ w h.
    let why = refused-by (link_refusal c.args.first c.args.second w) c.in-Err.e (sym (c.refusal.ensures w h) ∙ c.in-Err.is) in
    c.told.ensures ∙ ap (λ (s : State). let x : Shown = record { reply = reply.Err c.in-Err.e; state = Some s; woken = 0 } in x) (c.state.ensures w.groups h)
    ∙ ap shown (sym (link-refused c.args.first c.args.second w c.in-Err.e why))

pub returns-in-Err-clause-stands : goal.returns-in-Err-clause-stands
returns-in-Err-clause-stands c = λ w h.
    let why = refused-by (link_refusal c.args.first c.args.second w) c.in-Err.e (sym (c.refusal.ensures w h) ∙ c.in-Err.is) in
    subst (λ (t : Told). GroupsStand c.args.groups.now.items.items t.world.groups) (sym (link-refused c.args.first c.args.second w c.in-Err.e why)) h

pub returns-in-Err-clause-streams : goal.returns-in-Err-clause-streams
returns-in-Err-clause-streams c = λ w h k.
    let why = refused-by (link_refusal c.args.first c.args.second w) c.in-Err.e (sym (c.refusal.ensures w h) ∙ c.in-Err.is) in
    ap (λ (t : Told). stream_at k t.world.groups) (link-refused c.args.first c.args.second w c.in-Err.e why)

pub link-woken-requires-clause-apart : goal.link-woken-requires-clause-apart
link-woken-requires-clause-apart c = λ e.
    let other : nat_eq c.args.second.0 c.args.first.0 ≡ false = ∥∥₁_elim c.requires.stands (Coded-set coded_bool _ _) (λ x.
    let w : World = record empty { groups = x.0 } in
    (is-granted c.args.first c.args.second w (granted-by (link_refusal c.args.first c.args.second w) tt (sym (c.refusal.ensures w x.1) ∙ c.in_default.is))).other) in
    let no : ⊥ = grind (arith, nat_tests, other, e) in no

pub link-woken-requires-clause-ready : goal.link-woken-requires-clause-ready
link-woken-requires-clause-ready c =
    let gs = c.args.groups.now.items.items in
    record {
      first = ∥∥₁_elim c.requires.stands (Coded-set coded_bool _ _) (λ x. (numbers-of c.args.first gs x.0 x.1).held ∙ c.requires.declared x.0 x.1);
      second = ∥∥₁_elim c.requires.stands (Coded-set coded_bool _ _) (λ x.
          let w : World = record empty { groups = x.0 } in
          let g = is-granted c.args.first c.args.second w (granted-by (link_refusal c.args.first c.args.second w) tt (sym (c.refusal.ensures w x.1) ∙ c.in_default.is)) in
          (numbers-of c.args.second gs x.0 x.1).held ∙ open-held c.args.second x.0 g.open_now);
      alone = ∥∥₁_elim c.requires.stands (Coded-set coded_ℕ _ _) (λ x.
          let w : World = record empty { groups = x.0 } in
          let g = is-granted c.args.first c.args.second w (granted-by (link_refusal c.args.first c.args.second w) tt (sym (c.refusal.ensures w x.1) ∙ c.in_default.is)) in
          (numbers-of c.args.second gs x.0 x.1).count ∙ only-one c.args.second _ (open-held c.args.second x.0 g.open_now) g.alone);
    }
