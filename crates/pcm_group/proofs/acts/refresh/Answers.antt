use Rattle.std.proofs.Common.{◌≡◌, ◌≢◌, ◌⊎◌, inl, inr, set, refl, ◌∙◌, arith}
use Rattle.pcm_base.specs.declared.act.Updated.{Updated}
use Rattle.pcm_base.specs.declared.act.Updated.TheVariants as updated
use Rattle.pcm_base.specs.model.Group.{put_stream, stream_of}
use Rattle.pcm_base.specs.model.Update.{update}
use Rattle.pcm_stream.specs.Members.{fixed_of, members_of}
use Rattle.group_trigger.proofs.ListLemmas.{fixed-same}
use Rattle.pcm_group.proofs.EndedLemmas.{IsUpdated-stopped, IsUpdated-unstopped, keeps-update, stands-there}
use Rattle.pcm_group.proofs.PlaceLemmas.{IsAt-put}
use Rattle.pcm_group.proofs.FaultLemmas.{KeepsCards-set, KeepsCards-then, map-at}
use Rattle.pcm_group.proofs.acts.refresh.Goals as goal

quiet : (u : Updated) → (u ≡ updated.Nothing) ⊎ (u ≡ updated.DrainDone) → u ≢ updated.StopXrun
quiet u (inl h) e = let no : ⊥ = cc in no
quiet u (inr h) e = let no : ⊥ = cc in no

pub returns-in-Nothing : goal.returns-in-Nothing
returns-in-Nothing g c = record {
  updated = λ k tells xs h.
      let sh = stands-there (members_of c.args.members.now) c.args.place c.at_mut.result.now k tells xs h c.at_mut.ensures.value in
      IsUpdated-unstopped tells c.args.place k xs c.args.acts.now c.update-found.result (members_of c.args.members.now) c.at_mut.result.now c.update-found.new.self h c.at_mut.ensures.value
      (c.update-found.ensures.found (stream_of k xs) sh) (quiet c.update-found.result c.in-Nothing.is) (c.update-found.ensures.model (stream_of k xs) sh) c.update-found.ensures.keeps.faults.tells;
  count = omega arith;
  quiet = λ _. refl;
  fixed = map-at fixed_of (members_of c.args.members.now) c.args.place c.at_mut.result.now (record c.at_mut.result.now { stream = c.update-found.new.self }) c.at_mut.ensures.value
      (fixed-same c.at_mut.result.now c.update-found.new.self c.update-found.ensures.keeps.shape c.update-found.ensures.keeps.faults.tells);
  cards = KeepsCards-set c.args.acts.now (members_of c.args.members.now) c.args.place c.at_mut.result.now (record c.at_mut.result.now { stream = c.update-found.new.self }) c.at_mut.ensures.value
      c.update-found.ensures.keeps.faults.tells c.update-found.ensures.keeps.faults.count;
}

pub returns-in-StopXrun-clause-updated : goal.returns-in-StopXrun-clause-updated
returns-in-StopXrun-clause-updated g c = λ k tells xs h.
    let s = stream_of k xs in
    let sh = stands-there (members_of c.args.members.now) c.args.place c.at_mut.result.now k tells xs h c.at_mut.ensures.value in
    let v = (update s).stream in
    IsUpdated-stopped tells c.args.place k xs c.args.acts.now c.make.new.acts c.update-found.result c.make.result (members_of c.make.new.members)
    (c.update-found.ensures.found s sh) c.in-StopXrun.is
    (c.make.ensures.made c.args.place k tells (put_stream k v xs)
    (IsAt-put (members_of c.args.members.now) c.args.place c.at_mut.result.now c.update-found.new.self k tells v xs h c.at_mut.ensures.value (keeps-update s) (c.update-found.ensures.model s sh) c.update-found.ensures.keeps.faults.tells))

pub returns-in-StopXrun-clause-fixed : goal.returns-in-StopXrun-clause-fixed
returns-in-StopXrun-clause-fixed g c =
    c.make.ensures.fixed
    ∙ map-at fixed_of (members_of c.args.members.now) c.args.place c.at_mut.result.now (record c.at_mut.result.now { stream = c.update-found.new.self }) c.at_mut.ensures.value
    (fixed-same c.at_mut.result.now c.update-found.new.self c.update-found.ensures.keeps.shape c.update-found.ensures.keeps.faults.tells)

pub returns-in-StopXrun-clause-cards : goal.returns-in-StopXrun-clause-cards
returns-in-StopXrun-clause-cards g c =
    let ms = members_of c.args.members.now in
    let m = c.at_mut.result.now in
    let n = record m { stream = c.update-found.new.self } in
    KeepsCards-then c.args.acts.now c.args.acts.now c.make.new.acts ms (set ms c.args.place n) (members_of c.make.new.members)
    (KeepsCards-set c.args.acts.now ms c.args.place m n c.at_mut.ensures.value c.update-found.ensures.keeps.faults.tells c.update-found.ensures.keeps.faults.count) c.make.ensures.cards
