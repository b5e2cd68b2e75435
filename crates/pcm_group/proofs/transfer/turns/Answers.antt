use Rattle.std.proofs.Common.{ℕ, List, [], refl, sym, ◌∙◌, ap, subst, arith}
use Rattle.std.specs.Prelude.{IsSome}
use Rattle.std.specs.declared.option.Option.{Option}
use Rattle.pcm_base.specs.declared.call.Layout.{Layout}
use Rattle.pcm_base.specs.declared.config.Shape.{Shape}
use Rattle.pcm_base.specs.declared.ids.ClientId.{ClientId}
use Rattle.pcm_base.specs.declared.sleeper.Xfer.{Xfer}
use Rattle.pcm_base.specs.model.Transfer.{frames_by}
use Rattle.pcm_stream.specs.Members.{Fixed}
use Rattle.pcm_stream.specs.StandsFor.{shape_in}
use Rattle.xfer_loop.proofs.TurnLemmas.{config_in, room_in}
use Rattle.pcm_group.proofs.TransferLemmas.{all_size, begins, bytes_stay, goes_on_by, itself, last_by_turn, same_frames, whole_by}
use Rattle.pcm_group.proofs.transfer.turns.Goals as goal

client : ClientId
client = record { 0 = 0 }

pub turns-init : goal.turns-init
turns-init g c = record {
  fixed = refl;
  faults = refl;
  size = refl;
  sum = refl;
  written = λ s h e. refl;
  layout = λ s h. refl;
  writing = λ s h. refl;
  goes_on = λ k x fs s h way. begins k x c.args.xfer.now fs (frames_by c.args.xfer.now.layout s c.args.io.now) s c.args.io.now c.args.member.now.stream h way;
}

pub turns-preserved : goal.turns-preserved
turns-preserved g c =
    let y = c.args.xfer.now in
    record {
      fixed = (λ i. record { sub = c.transfer.ensures.sub i; sleepers = c.transfer.ensures.sleepers i; shape = c.transfer.ensures.keeps.shape i; tells = c.transfer.ensures.keeps.faults.tells i }) ∙ c.turns.invariant.fixed;
      faults = c.transfer.ensures.keeps.faults.count ∙ c.turns.invariant.faults;
      size = c.transfer.auto.io ∙ c.turns.invariant.size;
      sum = c.transfer.ensures.sum ∙ c.turns.invariant.sum;
      written = λ s h e.
          let u = c.turns.invariant.goes_on client y [] s h (itself y) in
          c.transfer.ensures.bytes u.left u.stands ∙ bytes_stay c.turns.xfer c.turns.io u.left (c.turns.invariant.writing s h ∙ e) ∙ c.turns.invariant.written s h e;
      layout = λ s h.
          let u = c.turns.invariant.goes_on client y [] s h (itself y) in
          ap (λ (k : Xfer). k.layout) (c.transfer.ensures.xfer u.left u.stands) ∙ c.turns.invariant.layout s h;
      writing = λ s h.
          let u = c.turns.invariant.goes_on client y [] s h (itself y) in
          ap (λ (k : Xfer). k.writing) (c.transfer.ensures.xfer u.left u.stands) ∙ c.turns.invariant.writing s h;
      goes_on = λ k x fs s h way.
          goes_on_by k x y c.turns.xfer c.transfer.new.xfer fs (frames_by y.layout s c.args.io.now) s c.args.io.now c.turns.io c.transfer.new.io c.in-Moved.field-0 c.turns.member.stream c.transfer.new.member.stream
          (c.turns.invariant.goes_on k x fs s h way) way refl (let u = c.turns.invariant.goes_on k x fs s h way in
          let t = u.left in
          let shape : IsSome (shape_in c.turns.member.stream) = subst (λ (o : Option Shape). IsSome o) (sym (ap (λ (f : Fixed). f.shape) c.turns.invariant.fixed)) c.requires.shape in
          record {
            rests = λ e. let none : ⊥ = omega (arith, e, c.turns-test.true) in none;
            answer = sym (c.in-Moved.is) ∙ c.transfer.ensures.step t u.stands;
            kept = c.transfer.ensures.xfer t u.stands;
            stands = c.transfer.ensures.stream t u.stands;
            room = room_in t (config_in c.turns.member.stream t shape u.stands) u.stands.sound;
            whole = all_size c.args.member.now.stream s y c.args.io.now c.requires.shape c.requires.count h ∙ sym c.turns.invariant.sum;
            shown = c.transfer.ensures.frames t u.stands;
            bytes = c.transfer.ensures.bytes t u.stands;
            frames = λ e.
                sym (same_frames y.layout s t c.args.io.now u.turned.setup)
                ∙ ap (λ (i : List ℕ). frames_by y.layout t i) (sym (c.turns.invariant.written s h (sym (c.turns.invariant.writing s h) ∙ e)))
                ∙ ap (λ (w : Layout). frames_by w t c.turns.io) (sym (c.turns.invariant.layout s h));
          });
    }

pub returns-in_default : goal.returns-in_default
returns-in_default g c =
    let y = c.args.xfer.now in
    record {
      turned = λ k x fs s h way.
          last_by_turn k x y c.turns.xfer c.transfer.new.xfer fs (frames_by y.layout s c.args.io.now) s c.args.io.now c.turns.io c.transfer.new.io c.transfer.result c.turns.member.stream c.transfer.new.member.stream
          (c.turns.invariant.goes_on k x fs s h way) way refl c.in_default.not-Moved (let u = c.turns.invariant.goes_on k x fs s h way in
          let t = u.left in
          let shape : IsSome (shape_in c.turns.member.stream) = subst (λ (o : Option Shape). IsSome o) (sym (ap (λ (f : Fixed). f.shape) c.turns.invariant.fixed)) c.requires.shape in
          record {
            rests = λ e. let none : ⊥ = omega (arith, e, c.turns-test.true) in none;
            answer = c.transfer.ensures.step t u.stands;
            kept = c.transfer.ensures.xfer t u.stands;
            stands = c.transfer.ensures.stream t u.stands;
            room = room_in t (config_in c.turns.member.stream t shape u.stands) u.stands.sound;
            whole = all_size c.args.member.now.stream s y c.args.io.now c.requires.shape c.requires.count h ∙ sym c.turns.invariant.sum;
            shown = c.transfer.ensures.frames t u.stands;
            bytes = c.transfer.ensures.bytes t u.stands;
            frames = λ e.
                sym (same_frames y.layout s t c.args.io.now u.turned.setup)
                ∙ ap (λ (i : List ℕ). frames_by y.layout t i) (sym (c.turns.invariant.written s h (sym (c.turns.invariant.writing s h) ∙ e)))
                ∙ ap (λ (w : Layout). frames_by w t c.turns.io) (sym (c.turns.invariant.layout s h));
          });
      written = λ s h e.
          let u = c.turns.invariant.goes_on client y [] s h (itself y) in
          c.transfer.ensures.bytes u.left u.stands ∙ bytes_stay c.turns.xfer c.turns.io u.left (c.turns.invariant.writing s h ∙ e) ∙ c.turns.invariant.written s h e;
      faults = c.transfer.ensures.keeps.faults.count ∙ c.turns.invariant.faults;
      sum = c.transfer.ensures.sum ∙ c.turns.invariant.sum;
      fixed = (λ i. record { sub = c.transfer.ensures.sub i; sleepers = c.transfer.ensures.sleepers i; shape = c.transfer.ensures.keeps.shape i; tells = c.transfer.ensures.keeps.faults.tells i }) ∙ c.turns.invariant.fixed;
    }

pub returns-clause-turned : goal.returns-clause-turned
returns-clause-turned g c = λ k x fs s h way.
    let u = c.turns.invariant.goes_on k x fs s h way in
    let y = c.args.xfer.now in
    let shape : IsSome (shape_in c.turns.member.stream) = subst (λ (o : Option Shape). IsSome o) (sym (ap (λ (f : Fixed). f.shape) c.turns.invariant.fixed)) c.requires.shape in
    whole_by k x y c.turns.xfer fs (frames_by y.layout s c.args.io.now) s c.args.io.now c.turns.io c.turns.member.stream u (room_in u.left (config_in c.turns.member.stream u.left shape u.stands) u.stands.sound)
    (all_size c.args.member.now.stream s y c.args.io.now c.requires.shape c.requires.count h ∙ sym c.turns.invariant.sum) (omega (arith, c.turns-test.false))
