use Rattle.std.proofs.Common.{◌≡◌, ◌≢◌, inl, inr, ℕ, ◌*◌, true, List, Option, length, slice_get, refl, sym, ◌∙◌, subst, arith}
use Rattle.std.specs.Prelude.{nat_le}
use Rattle.std.proofs.Math.Logic.{∥∥₁_elim, ∥∥₁_map}
use Rattle.std.proofs.lemmas.Bool.Decides.{nat_tests}
use Rattle.std.specs.Coded.{Coded-set, coded_bool, coded_ℕ}
use Rattle.pcm_base.specs.declared.ids.ClientId.{ClientId}
use Rattle.pcm_base.specs.declared.reply.Reply.TheVariants as reply
use Rattle.pcm_base.specs.model.World.{World, begun, group_of, in_group}
use Rattle.pcm_group.specs.Bytes.{HasLength}
use Rattle.pcm_group.specs.Turn.{caller_of}
use Rattle.pcm_world.specs.declared.calls.Kept.{Kept}
use Rattle.pcm_world.specs.Calls.{stream_at}
use Rattle.pcm_world.specs.Groups.{AreFreeFor}
use Rattle.pcm_world.specs.Shown.{slot_bytes}
use Rattle.pcm_world.specs.Stands.{AreWorld}
use Rattle.pcm_world.proofs.BeginLemmas.{has-length}
use Rattle.pcm_world.proofs.BeginWorld.{IsBeginning, IsLentStep, begun-free, begun-result, begun-world, lent-first, lent-results, lent-step, lent-told, memory-or-not, places-same, results-same}
use Rattle.pcm_world.proofs.GroupLemmas.{place_held}
use Rattle.pcm_world.proofs.ResultLemmas.{AreFirst}
use Rattle.pcm_world.proofs.ShapeLemmas.{lent-whole, shape_at, shaped-fit, some-whole, told-whole}
use Rattle.pcm_world.proofs.StandingLemmas.{fit-at}
use Rattle.pcm_world.proofs.WorldSteps.{world-same}
use Rattle.pcm_world.proofs.world.World.begin.Goals as goal

pub in_group-told-requires-clause-free : goal.in_group-told-requires-clause-free
in_group-told-requires-clause-free c = ∥∥₁_map c.args.self.now.stands (λ w.
    let e = c.args.event.now in
    let h : IsBeginning c.args.self.now.long_max c.args.self.now.groups.items.items c.args.self.now.calls w.0 e.call e.client e.sub = record {
      world = w.1;
      numbers = c.args.self.now.groups.numbered;
      held = place_held c.args.self.now.groups.items.items w.0.groups e.sub c.args.place w.1.groups c.requires.place;
      begins = c.requires.begins;
      card = c.requires.caller;
      client = c.requires.client;
      opened = c.requires.opened w.0 w.1;
      idle = c.requires.idle;
    } in
    (w.0.groups, w.1.groups, λ d is. subst (λ (o : Option ClientId). AreFreeFor e.call e.sub (caller_of o) (group_of e.sub w.0.groups)) is (begun-free c.args.self.now.long_max c.args.self.now.groups.items.items c.args.self.now.calls w.0 e.call e.client e.sub h)))

pub in_group-told-requires-clause-length : goal.in_group-told-requires-clause-length
in_group-told-requires-clause-length c = λ xs h.
    let e = c.args.event.now in
    subst (λ (b : List ℕ). HasLength e.call b (stream_at e.sub xs)) (sym (lent-whole e.call c.layout_read-layout.result c.shape_for-shape.result (stream_at e.sub xs) c.args.bytes.now c.lend.new.io.items c.layout_read-layout.ensures (c.shape_for-shape.ensures.model xs h) c.in-Ok.ensures))
    (has-length e.call (shape_at (stream_at e.sub xs)) c.args.bytes.now (stream_at e.sub xs) (shaped-fit (stream_at e.sub xs) (fit-at c.args.self.now.groups.items.items xs e.sub h)) (fit-at c.args.self.now.groups.items.items xs e.sub h).sound)

pub end-requires-clause-frames : goal.end-requires-clause-frames
end-requires-clause-frames c = λ z l n of lay is.
    let e = c.args.event.now in
    let told : c.in_group-told.result.reply ≢ reply.Memory = (λ q. let two : reply.Frames n ≡ reply.Memory = sym is ∙ q in let no : ⊥ = cc in no) in
    let first : ((w : World) × AreWorld c.args.self.now.long_max c.args.self.now.groups.items.items c.args.self.now.calls w) → AreFirst z n c.in_group-told.new.io.items = (λ (w : (w : World) × AreWorld c.args.self.now.long_max c.args.self.now.groups.items.items c.args.self.now.calls w).
    lent-first c.args.self.now.long_max c.args.self.now.groups.items.items c.in_group-told.new.groups.items.items c.args.self.now.calls w.0 e.call e.client e.sub (shape_at (stream_at e.sub w.0.groups)) c.args.bytes.now c.lend.new.io.items c.in_group-told.new.io.items c.in_group-told.result
    (record {
      before = record {
        world = w.1;
        numbers = c.args.self.now.groups.numbered;
        held = place_held c.args.self.now.groups.items.items w.0.groups e.sub c.args.place w.1.groups c.requires.place;
        begins = c.requires.begins;
        card = c.requires.caller;
        client = c.requires.client;
        opened = c.requires.opened w.0 w.1;
        idle = c.requires.idle;
      };
      shaped = shaped-fit (stream_at e.sub w.0.groups) (fit-at c.args.self.now.groups.items.items w.0.groups e.sub w.1.groups);
      is_lent = lent-whole e.call c.layout_read-layout.result c.shape_for-shape.result (stream_at e.sub w.0.groups) c.args.bytes.now c.lend.new.io.items c.layout_read-layout.ensures (c.shape_for-shape.ensures.model w.0.groups w.1.groups) c.in-Ok.ensures;
      told = c.in_group-told.ensures.told w.0.groups w.1.groups told;
      stands = c.in_group-told.ensures.stands w.0.groups w.1.groups told;
      size = c.in_group-told.ensures.size;
      bytes = c.in_group-told.ensures.bytes w.0.groups w.1.groups told;
      loaded = c.in_group-told.ensures.loaded w.0.groups w.1.groups;
    }) z l n (some-whole c.layout_read-layout.result l c.shape_for-shape.result z (stream_at e.sub w.0.groups) (c.shape_for-shape.ensures.model w.0.groups w.1.groups) lay of) (sym c.layout_read-layout.ensures ∙ lay) is) in
    let few : nat_le (n * z.frame_bytes) (length c.in_group-told.new.io.items) ≡ true = ∥∥₁_elim c.args.self.now.stands (Coded-set coded_bool _ _) (λ w. let f = (first w).count in grind (arith, nat_tests, f)) in
    (∥∥₁_elim c.args.self.now.stands (Coded-set coded_ℕ _ _) (λ w. (first w).whole), grind (arith, nat_tests, few))

pub invariant_of-self-2 : goal.invariant_of-self-2
invariant_of-self-2 c = record {
  long = c.args.self.now.long;
  stands = ∥∥₁_map c.args.self.now.stands (λ w.
      let e = c.args.event.now in
      let q : Kept = record { sub = e.sub; layout = c.layout_read-layout.result; bytes = c.in_group-told.new.io } in
      let n = c.args.self.now.long_max in
      let gs = c.args.self.now.groups.items.items in
      let new = c.in_group-told.new.groups.items.items in
      let calls = c.args.self.now.calls in
      elim (memory-or-not c.in_group-told.result.reply) [
        | inl none ↦ (
          w.0,
          world-same n gs new calls c.end.new.calls w.0 w.1 (c.in_group-told.ensures.memory w.0.groups w.1.groups none)
              (λ i b. places-same e.client c.in_group-told.result.reply q calls c.end.new.calls (record { call = c.end.ensures.call; others = c.end.ensures.calls }) none i),
        )
        | inr told ↦ (
          (in_group e.call (begun (caller_of e.client) e.sub c.args.bytes.now) w.0).world,
          begun-world n gs new calls c.end.new.calls w.0 e.call e.client e.sub (shape_at (stream_at e.sub w.0.groups)) c.args.bytes.now q
              (lent-step n gs new calls w.0 e.call e.client e.sub (shape_at (stream_at e.sub w.0.groups)) c.args.bytes.now c.lend.new.io.items c.in_group-told.new.io.items c.in_group-told.result
              (record {
                before = record {
                  world = w.1;
                  numbers = c.args.self.now.groups.numbered;
                  held = place_held gs w.0.groups e.sub c.args.place w.1.groups c.requires.place;
                  begins = c.requires.begins;
                  card = c.requires.caller;
                  client = c.requires.client;
                  opened = c.requires.opened w.0 w.1;
                  idle = c.requires.idle;
                };
                shaped = shaped-fit (stream_at e.sub w.0.groups) (fit-at c.args.self.now.groups.items.items w.0.groups e.sub w.1.groups);
                is_lent = lent-whole e.call c.layout_read-layout.result c.shape_for-shape.result (stream_at e.sub w.0.groups) c.args.bytes.now c.lend.new.io.items c.layout_read-layout.ensures (c.shape_for-shape.ensures.model w.0.groups w.1.groups) c.in-Ok.ensures;
                told = c.in_group-told.ensures.told w.0.groups w.1.groups told;
                stands = c.in_group-told.ensures.stands w.0.groups w.1.groups told;
                size = c.in_group-told.ensures.size;
                bytes = c.in_group-told.ensures.bytes w.0.groups w.1.groups told;
                loaded = c.in_group-told.ensures.loaded w.0.groups w.1.groups;
              }) q c.end.new.calls refl c.layout_read-layout.ensures refl (record { call = c.end.ensures.call; others = c.end.ensures.calls })),
        )
      ]);
}

pub returns-clause-answered : goal.returns-clause-answered
returns-clause-answered c = λ w is told.
    let e = c.args.event.now in
    let q : Kept = record { sub = e.sub; layout = c.layout_read-layout.result; bytes = c.in_group-told.new.io } in
    let n = c.args.self.now.long_max in
    let gs = c.args.self.now.groups.items.items in
    let new = c.in_group-told.new.groups.items.items in
    let calls = c.args.self.now.calls in
    let s : IsLentStep n gs new calls w e.call e.client e.sub (shape_at (stream_at e.sub w.groups)) c.args.bytes.now c.lend.new.io.items c.in_group-told.new.io.items c.in_group-told.result = record {
      before = record {
        world = is;
        numbers = c.args.self.now.groups.numbered;
        held = place_held gs w.groups e.sub c.args.place is.groups c.requires.place;
        begins = c.requires.begins;
        card = c.requires.caller;
        client = c.requires.client;
        opened = c.requires.opened w is;
        idle = c.requires.idle;
      };
      shaped = shaped-fit (stream_at e.sub w.groups) (fit-at c.args.self.now.groups.items.items w.groups e.sub is.groups);
      is_lent = lent-whole e.call c.layout_read-layout.result c.shape_for-shape.result (stream_at e.sub w.groups) c.args.bytes.now c.lend.new.io.items c.layout_read-layout.ensures (c.shape_for-shape.ensures.model w.groups is.groups) c.in-Ok.ensures;
      told = c.in_group-told.ensures.told w.groups is.groups told;
      stands = c.in_group-told.ensures.stands w.groups is.groups told;
      size = c.in_group-told.ensures.size;
      bytes = c.in_group-told.ensures.bytes w.groups is.groups told;
      loaded = c.in_group-told.ensures.loaded w.groups is.groups;
    } in
    let step = lent-step n gs new calls w e.call e.client e.sub (shape_at (stream_at e.sub w.groups)) c.args.bytes.now c.lend.new.io.items c.in_group-told.new.io.items c.in_group-told.result s q c.end.new.calls refl c.layout_read-layout.ensures refl
    (record { call = c.end.ensures.call; others = c.end.ensures.calls }) in
    record {
      told = lent-told n gs new calls w e.call e.client e.sub (shape_at (stream_at e.sub w.groups)) c.args.bytes.now c.lend.new.io.items c.in_group-told.new.io.items c.in_group-told.result s;
      world = begun-world n gs new calls c.end.new.calls w e.call e.client e.sub (shape_at (stream_at e.sub w.groups)) c.args.bytes.now q step;
      result = λ d. begun-result n gs new calls c.end.new.calls w e.call e.client e.sub (shape_at (stream_at e.sub w.groups)) c.args.bytes.now q c.args.self.now.results c.end.new.results step
          (lent-results n gs new calls w e.call e.client e.sub (shape_at (stream_at e.sub w.groups)) c.args.bytes.now c.lend.new.io.items c.in_group-told.new.io.items c.in_group-told.result s q c.args.self.now.results c.end.new.results
          (record { own = λ x z. told-whole c.in_group-told.result.reply c.layout_read-layout.result c.shape_for-shape.result (stream_at e.sub w.groups) c.in_group-told.new.io.items (slot_bytes (slice_get c.args.self.now.results x.0)) (slot_bytes (slice_get c.end.new.results x.0)) (c.shape_for-shape.ensures.model w.groups is.groups) (c.end.ensures.result x z); others = c.end.ensures.results })) d;
    }

pub returns-clause-unread : goal.returns-clause-unread
returns-clause-unread c = λ d none.
    let q : Kept = record { sub = c.args.event.now.sub; layout = c.layout_read-layout.result; bytes = c.in_group-told.new.io } in
    results-same c.args.event.now.client c.in_group-told.result.reply q c.shape_for-shape.result c.args.self.now.results c.end.new.results (record { own = c.end.ensures.result; others = c.end.ensures.results }) none d
