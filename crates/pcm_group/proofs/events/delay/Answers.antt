use Rattle.std.proofs.Common.{◌≡◌, ◌≢◌, ◌⊎◌, inl, inr, Bool, true, false, cond, None, refl, ◌∙◌, ap}
use Rattle.pcm_base.specs.declared.act.Updated.{Updated}
use Rattle.pcm_base.specs.declared.act.Updated.TheVariants as updated
use Rattle.pcm_base.specs.declared.call.CallKind.TheVariants as kind
use Rattle.pcm_base.specs.declared.reply.Reply.TheVariants as reply
use Rattle.pcm_base.specs.declared.state.Errno.TheVariants as errno
use Rattle.pcm_base.specs.model.Acts.{table}
use Rattle.pcm_base.specs.model.Group.{stream_of}
use Rattle.pcm_base.specs.model.Program.{says, updated_or_epipe}
use Rattle.pcm_base.specs.model.Stream.{Stream}
use Rattle.pcm_stream.specs.Members.{members_of}
use Rattle.pcm_base.specs.declared.state.Dir.{Dir}
use Rattle.pcm_base.specs.declared.state.State.{State}
use Rattle.pcm_base.specs.declared.state.State.TheVariants as state
use Rattle.pcm_base.specs.model.Events.{delay}
use Rattle.pcm_base.specs.model.Permit.{permit}
use Rattle.pcm_base.specs.model.Sound.{is_set_up}
use Rattle.pcm_base.specs.model.Update.{Refreshed, found, moved_up, settled}
use Rattle.pcm_group.proofs.EndedLemmas.{IsEnded-allowed, IsEnded-epipe, IsEnded-refused, IsEnded-reply, IsEnded-reported, IsEnded-says, stands-there}
use Rattle.pcm_group.proofs.FaultLemmas.{KeepsCards-same}
use Rattle.pcm_stream.specs.Members.{members_of}
use Rattle.pcm_group.proofs.events.delay.Goals as goal

some : (u : Updated) → (u ≡ updated.DrainDone) ⊎ (u ≡ updated.StopXrun) → u ≢ updated.Nothing
some u (inl h) e = let no : ⊥ = cc in no
some u (inr h) e = let no : ⊥ = cc in no

-- a state in which a delay is told has a configuration, and an update leaves it one
told_set_up : (t : State) (d : Dir) → permit kind.Delay t d ≡ None → is_set_up t ≡ true
told_set_up state.Closed d h = absurd (cc)
told_set_up state.Opened d h = absurd (cc)
told_set_up state.Disconnected d h = absurd (cc)
told_set_up _ d h = refl

settled_set_up : (u : Updated) (s : Stream) → is_set_up s.state ≡ true → is_set_up (settled u s).state ≡ true
settled_set_up updated.DrainDone s h = refl
settled_set_up updated.Nothing s h = h
settled_set_up updated.StopXrun s h = h

updated_set_up : (b : Bool) (s : Stream) → is_set_up s.state ≡ true
    → (let u : Refreshed = cond b (record { found = found (moved_up s); stream = settled (found (moved_up s)) (moved_up s) }) (record { found = updated.Nothing; stream = s }) in is_set_up u.stream.state ≡ true)
updated_set_up true s h = settled_set_up (found (moved_up s)) (moved_up s) h
updated_set_up false s h = h

quiet : (u : Updated) → u ≡ updated.Nothing → u ≢ updated.StopXrun
quiet u h e = let no : ⊥ = cc in no

pub returns-in-Err-clause-done : goal.returns-in-Err-clause-done
returns-in-Err-clause-done g c = λ client linked k tells xs h.
    IsEnded-refused tells (table kind.Delay (stream_of k xs)) _ c.in-Err.e k xs c.args.acts.now (members_of c.args.members.now) c.args.place h (c.in-Err.ensures k tells xs h)

pub returns-in-Nothing-clause-done : goal.returns-in-Nothing-clause-done
returns-in-Nothing-clause-done g c = λ client linked k tells xs h.
    let s = stream_of k xs in
    let u = c.refresh.ensures.updated k tells xs h in
    let ms = members_of c.refresh.new.members in
    let t = stream_of k u.left in
    let allowed = c.in_default.ensures k tells xs h in
    let sh = stands-there ms c.args.place c.at.result.now k tells u.left u.now c.at.ensures in
    let up : is_set_up t.state ≡ true = ap (λ (x : Stream). is_set_up x.state) (u.unstopped (quiet c.refresh.result c.in-Nothing.is)) ∙ updated_set_up s.card.runs s (told_set_up s.state s.dir allowed) in
    IsEnded-allowed tells (table kind.Delay s) s (updated_or_epipe s (λ x. says (delay x) x)) k xs c.args.acts.now c.refresh.new.acts c.delay_now.result 0 0 ms allowed
    (IsEnded-reported tells (λ x. says (delay x) x) c.args.place k xs c.args.acts.now c.refresh.new.acts c.refresh.new.acts c.refresh.result ms ms c.delay_now.result 0 0 u c.in-Nothing.is
    (IsEnded-reply tells (says (delay t) t) k u.left c.refresh.new.acts c.refresh.new.acts c.delay_now.result (delay t) 0 0 ms (c.delay_now.ensures.delay t sh up)
    (IsEnded-says tells k u.left c.refresh.new.acts (delay t) ms c.args.place u.now)))

pub returns-in-DrainDone : goal.returns-in-DrainDone
returns-in-DrainDone g c = record {
  done = λ client linked k tells xs h.
      let u = c.refresh.ensures.updated k tells xs h in
      let ms = members_of c.refresh.new.members in
      IsEnded-allowed tells (table kind.Delay (stream_of k xs)) (stream_of k xs) (updated_or_epipe (stream_of k xs) (λ x. says (delay x) x)) k xs c.args.acts.now c.refresh.new.acts (reply.Err errno.Epipe) 0 0 ms (c.in_default.ensures k tells xs h)
      (IsEnded-epipe tells (λ x. says (delay x) x) c.args.place k xs c.args.acts.now c.refresh.new.acts c.refresh.result ms u (some c.refresh.result c.in-DrainDone.is));
  told = λ e. (let no : ⊥ = cc in no);
  awake = λ e. (let no : ⊥ = cc in no);
  fixed = c.refresh.ensures.fixed;
  cards = c.refresh.ensures.cards;
}

pub returns-in-Err-clause-cards : goal.returns-in-Err-clause-cards
returns-in-Err-clause-cards g c = KeepsCards-same c.args.acts.now (members_of c.args.members.now)
