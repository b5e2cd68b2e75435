use Rattle.std.proofs.Common.{◌≡◌, ◌≢◌, ◌⊎◌, inl, inr, ap, ◌∙◌}
use Rattle.pcm_base.specs.declared.act.Updated.{Updated}
use Rattle.pcm_base.specs.declared.act.Updated.TheVariants as updated
use Rattle.pcm_base.specs.declared.call.CallKind.TheVariants as kind
use Rattle.pcm_base.specs.model.Events.{rewound}
use Rattle.pcm_base.specs.model.Group.{stream_of}
use Rattle.pcm_base.specs.model.Sound.{is_set_up}
use Rattle.pcm_base.specs.model.Stream.{Stream}
use Rattle.pcm_stream.specs.Members.{fixed_of, members_of}
use Rattle.group_trigger.proofs.ListLemmas.{fixed-same}
use Rattle.pcm_group.proofs.EndedLemmas.{stands-there}
use Rattle.pcm_group.proofs.PointerLemmas.{asks-epipe, asks-moved, asks-none, asks-refused, rewinds_set_up, quiet, updated_set_up}
use Rattle.pcm_group.proofs.FaultLemmas.{KeepsCards-same, KeepsCards-set, KeepsCards-then, map-at}
use Rattle.std.proofs.Common.{set}
use Rattle.pcm_group.proofs.pointers.rewind.Goals as goal

some : (u : Updated) → (u ≡ updated.DrainDone) ⊎ (u ≡ updated.StopXrun) → u ≢ updated.Nothing
some u (inl h) e = let no : ⊥ = cc in no
some u (inr h) e = let no : ⊥ = cc in no

pub returns-then-n-eq0-clause-done : goal.returns-then-n-eq0-clause-done
returns-then-n-eq0-clause-done g c = λ client linked k tells xs h.
    asks-none kind.Rewind c.args.n (rewound c.args.n) tells k xs c.args.acts.now (members_of c.args.members.now) c.args.place c.if-n-eq0.true h

pub returns-in-Err-clause-done : goal.returns-in-Err-clause-done
returns-in-Err-clause-done g c = λ client linked k tells xs h.
    asks-refused kind.Rewind c.args.n (rewound c.args.n) tells c.in-Err.e k xs c.args.acts.now (members_of c.args.members.now) c.args.place c.if-n-eq0.false (c.in-Err.ensures k tells xs h) h

pub returns-in-Nothing-clause-done : goal.returns-in-Nothing-clause-done
returns-in-Nothing-clause-done g c = λ client linked k tells xs h.
    let s = stream_of k xs in
    let u = c.refresh.ensures.updated k tells xs h in
    let ms = members_of c.refresh.new.members in
    let m = c.at_mut.result.now in
    let t = stream_of k u.left in
    let allowed = c.in_default.ensures k tells xs h in
    let sh = stands-there ms c.args.place m k tells u.left u.now c.at_mut.ensures.value in
    let up : is_set_up t.state ≡ _ = ap (λ (x : Stream). is_set_up x.state) (u.unstopped (quiet c.refresh.result c.in-Nothing.is)) ∙ updated_set_up s (rewinds_set_up s.state s.dir allowed) in
    asks-moved kind.Rewind c.args.n (rewound c.args.n) tells c.args.place k xs c.args.acts.now c.refresh.new.acts c.refresh.result ms m c.rewind_now.new.stream c.rewind_now.result
    c.if-n-eq0.false allowed u c.in-Nothing.is c.at_mut.ensures.value (c.rewind_now.ensures.done t sh up)

pub returns-in-Nothing-clause-fixed : goal.returns-in-Nothing-clause-fixed
returns-in-Nothing-clause-fixed g c =
    let ms = members_of c.refresh.new.members in
    let m = c.at_mut.result.now in
    map-at fixed_of ms c.args.place m (record m { stream = c.rewind_now.new.stream }) c.at_mut.ensures.value (fixed-same m c.rewind_now.new.stream c.rewind_now.ensures.keeps.shape c.rewind_now.ensures.keeps.faults.tells) ∙ c.refresh.ensures.fixed

pub returns-in-DrainDone : goal.returns-in-DrainDone
returns-in-DrainDone g c = record {
  done = λ client linked k tells xs h.
      asks-epipe kind.Rewind c.args.n (rewound c.args.n) tells c.args.place k xs c.args.acts.now c.refresh.new.acts c.refresh.result (members_of c.refresh.new.members)
      c.if-n-eq0.false (c.in_default.ensures k tells xs h) (c.refresh.ensures.updated k tells xs h) (some c.refresh.result c.in-DrainDone.is);
  told = λ e. (let no : ⊥ = cc in no);
  awake = λ e. (let no : ⊥ = cc in no);
  fixed = c.refresh.ensures.fixed;
  cards = c.refresh.ensures.cards;
}

pub returns-in-Err-clause-cards : goal.returns-in-Err-clause-cards
returns-in-Err-clause-cards g c = KeepsCards-same c.args.acts.now (members_of c.args.members.now)

pub returns-then-n-eq0-clause-cards : goal.returns-then-n-eq0-clause-cards
returns-then-n-eq0-clause-cards g c = KeepsCards-same c.args.acts.now (members_of c.args.members.now)

pub returns-in-Nothing-clause-cards : goal.returns-in-Nothing-clause-cards
returns-in-Nothing-clause-cards g c =
    let ms = members_of c.refresh.new.members in
    let m = c.at_mut.result.now in
    let n = record m { stream = c.rewind_now.new.stream } in
    KeepsCards-then c.args.acts.now c.refresh.new.acts c.refresh.new.acts (members_of c.args.members.now) ms (set ms c.args.place n) c.refresh.ensures.cards
    (KeepsCards-set c.refresh.new.acts ms c.args.place m n c.at_mut.ensures.value c.rewind_now.ensures.keeps.faults.tells c.rewind_now.ensures.keeps.faults.count)
