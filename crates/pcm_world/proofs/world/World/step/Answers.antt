use Rattle.std.proofs.Common.{◌≡◌, inl, inr, ℕ, List, [], Bool, Option, None, true, cond, ◌&&◌, ◌++◌, length, drop, nat_eq, sym, ap, ◌∙◌, arith}
use Rattle.std.proofs.Math.Logic.{∥∥₁_elim}
use Rattle.std.proofs.Math.Seq.{drop-append_seam}
use Rattle.std.proofs.lemmas.Bool.Decides.{nat_tests}
use Rattle.std.specs.Coded.{Coded-set, coded_list, coded_ℕ}
use Rattle.pcm_base.specs.declared.call.Call.{Call}
use Rattle.pcm_base.specs.declared.call.Call.TheVariants as call
use Rattle.pcm_base.specs.declared.ids.SubId.{SubId}
use Rattle.pcm_base.specs.model.Frame.{bytes_of}
use Rattle.pcm_base.specs.model.World.{InProgress, Told, begun, named, nobody, step}
use Rattle.pcm_group.specs.Turn.{is_card_event}
use Rattle.pcm_world.specs.declared.world.Taken.{Taken}
use Rattle.pcm_world.specs.Calls.{stream_at}
use Rattle.pcm_world.specs.Groups.{taken_of}
use Rattle.pcm_world.specs.Shown.{IsWorld, is_movement, taken_since}
use Rattle.pcm_world.proofs.GroupLemmas.{taken-stands}
use Rattle.pcm_world.proofs.NamedLemmas.{moved-on, movement-or-not, none-is, step-card, taken-here}
use Rattle.pcm_world.proofs.world.World.step.Goals as goal

pub returns-then-ne-clause-moved : goal.returns-then-ne-clause-moved
returns-then-ne-clause-moved c = λ w k is told.
    let e = c.args.event.now in
    let io = c.args.bytes.now in
    let gs = c.args.self.now.groups.items.items in
    let now = c.answer-told.new.self.groups.items.items in
    let t : Told = step w e io in
    let after : IsWorld c.answer-told.new.self t.world = (c.answer-told.ensures.answered w is told).world in
    elim (movement-or-not e.call) [
      | inr other ↦ ap (λ (o : Option Taken). taken_since o k (taken_of k now)) (c.movement-taken.ensures.none other) ∙ sym (ap (λ (b : Bool). cond (b && nat_eq e.sub.0 k.0) t.bytes []) other)
      | inl m ↦
          let card : e.client ≡ None = none-is e.client (sym c.requires.caller ∙ ap is_card_event m.1) in
          let p : InProgress = begun nobody e.sub io in
          let same : t ≡ named (call.MoveBy m.0) p w = step-card w e io card ∙ ap (λ (x : Call). named x p w) m.1 in
          let on = moved-on gs m.0 p w is.groups c.args.self.now.groups.numbered in
          let was : taken_of e.sub gs ≡ bytes_of (stream_at e.sub w.groups).card.taken = taken-stands e.sub gs w.groups is.groups in
          let is_now : taken_of e.sub now ≡ taken_of e.sub gs ++ t.bytes =
          taken-stands e.sub now t.world.groups after.groups ∙ ap (λ (u : Told). bytes_of (stream_at e.sub u.world.groups).card.taken) same ∙ on
          ∙ ap (λ (l : List ℕ). l ++ (named (call.MoveBy m.0) p w).bytes) (sym was) ∙ ap (λ (u : Told). taken_of e.sub gs ++ u.bytes) (sym same) in
          let here : nat_eq e.sub.0 k.0 ≡ true → drop (length (taken_of e.sub gs)) (taken_of k now) ≡ t.bytes = λ b.
          let number : e.sub.0 ≡ k.0 = grind (arith, nat_tests, b) in
          let one : e.sub ≡ k = ap (λ (n : ℕ). let i : SubId = record { 0 = n } in i) number in
          ap (λ (i : SubId). drop (length (taken_of e.sub gs)) (taken_of i now)) (sym one) ∙ ap (drop (length (taken_of e.sub gs))) is_now ∙ drop-append_seam (taken_of e.sub gs) t.bytes in
          ap (λ (o : Option Taken). taken_since o k (taken_of k now)) (c.movement-taken.ensures.some m.0 m.1)
          ∙ taken-here e.sub k (length (taken_of e.sub gs)) (taken_of k now) t.bytes here
          ∙ sym (ap (λ (x : Call). cond (is_movement x && nat_eq e.sub.0 k.0) t.bytes []) m.1)
    ]

pub returns-else-ne-clause-unmoved : goal.returns-else-ne-clause-unmoved
returns-else-ne-clause-unmoved c = λ k none. ∥∥₁_elim c.args.self.now.stands (Coded-set (coded_list coded_ℕ) _ _) (λ w.
    let gs = c.args.self.now.groups.items.items in
    let now = c.answer-told.new.self.groups.items.items in
    let after : IsWorld c.answer-told.new.self w.0 = c.answer-told.ensures.memory w.0 w.1 none in
    let same : taken_of k now ≡ taken_of k gs = taken-stands k now w.0.groups after.groups ∙ sym (taken-stands k gs w.0.groups w.1.groups) in
    ap (λ (o : Option Taken). taken_since o k (taken_of k now)) c.answer-told.ensures.taken ∙ ap (λ (l : List ℕ). taken_since c.args.self.now.taken k l) same)
