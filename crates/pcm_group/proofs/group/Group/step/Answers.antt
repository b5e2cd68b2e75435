use Rattle.std.proofs.Common.{◌≡◌, ℕ, nat_lt, List, length, refl, sym, ◌∙◌, ap, subst}
use Rattle.pcm_base.specs.declared.call.Call.{Call}
use Rattle.pcm_base.specs.declared.reply.Reply.{Reply}
use Rattle.pcm_base.specs.declared.votes.Acted.{Acted}
use Rattle.pcm_base.specs.declared.ids.ClientId.{ClientId}
use Rattle.pcm_base.specs.declared.ids.SubId.{SubId}
use Rattle.pcm_base.specs.model.Events.{program}
use Rattle.pcm_base.specs.model.Group.{GroupStep, Run, mark, stream_of}
use Rattle.pcm_base.specs.model.Sleep.{group_drains, mask_of, wake, woken}
use Rattle.pcm_base.specs.model.Stream.{Member as ModelMember}
use Rattle.pcm_stream.specs.Members.{all_faults, members_of}
use Rattle.pcm_stream.specs.MembersStand.{AllStandFor}
use Rattle.group_trigger.specs.Votes.{all_tell}
use Rattle.pcm_group.specs.Bytes.{bytes_left}
use Rattle.pcm_group.specs.Ended.{IsAt, RunsTo}
use Rattle.pcm_group.specs.declared.turn.Turn.{Turn}
use Rattle.pcm_group.specs.Stepped.{IsTurn}
use Rattle.pcm_group.specs.Turn.{caller, frames_moved}
use Rattle.pcm_group.specs.Faults.{FaultsOver}
use Rattle.pcm_group.proofs.EventLemmas.{client_free}
use Rattle.pcm_group.proofs.MemoryLemmas.{nobody_woken, unwoken}
use Rattle.pcm_group.proofs.ToldLemmas.{run_told}
use Rattle.pcm_group.proofs.PlaceLemmas.{IsAt-of}
use Rattle.pcm_group.proofs.group.Group.step.Goals as goal

pub event-carried-requires-clause-free : goal.event-carried-requires-clause-free
event-carried-requires-clause-free g c =
    let ev = c.args.event.now in
    client_free ev.call ev.sub c.place_of-place.result ev.client (members_of c.args.self.now.members) c.args.self.now.distinct c.place_of-place.ensures.number c.requires.free

pub returns-clause-step : goal.returns-clause-step
returns-clause-step g c = λ xs h n.
    let ms = members_of c.args.self.now.members in
    let ev = c.args.event.now in
    let at : IsAt ms c.place_of-place.result ev.sub (all_tell ms) xs = IsAt-of ms c.place_of-place.result ev.sub xs c.args.self.now.distinct c.place_of-place.ensures.number h in
    let long = c.requires.length xs h in
    let e = c.event-carried.ensures.done ev.sub (all_tell ms) xs at long n in
    let now = mark ev.sub c.event-carried.result.reply (caller ev) e.ends.left in
    let same : now ≡ mark ev.sub e.ends.answer.reply (caller ev) e.ends.left = ap (λ (r : Reply). mark ev.sub r (caller ev) e.ends.left) e.ends.reply in
    let runs = subst (λ (ds : List Acted). RunsTo (all_tell ms) (program ev.call (caller ev) (nat_lt 1 (length xs)) c.args.io.now (stream_of ev.sub xs)) ev.sub xs ds e.ends.answer e.ends.left) (sym e.ends.acts) e.ends.runs in
    record {
      answer = e.ends.answer;
      left = e.ends.left;
      runs = runs;
      reply = e.ends.reply;
      first = e.ends.first;
      moved = e.moved ∙ ap (λ (k : ℕ). frames_moved ev.call k) e.ends.moved;
      woken = c.wake_all-woken.ensures.mask now e.ends.stands ∙ ap (λ (l : List ModelMember). mask_of (woken l)) same;
      stands = subst (λ (l : List ModelMember). AllStandFor (members_of c.wake_all-woken.new.members) (wake l)) same (c.wake_all-woken.ensures.stands now e.ends.stands);
      bytes = λ unlent. c.event-carried.ensures.transferred ev.sub (all_tell ms) xs e.ends.answer e.ends.left at long unlent runs;
    }

-- the step by its run
abbrev stepped : SubId → ClientId → Run → GroupStep
stepped k c r =
    let now = mark k r.answer.reply c r.members in
    record { answer = r.answer; acts = r.acts; woken = woken now; members = wake now }

turn_by : (e : Call) (k : SubId) (c : ClientId) (turn : Turn) (r q : Run) → r ≡ q → IsTurn e (stepped k c r) turn → IsTurn e (stepped k c q) turn
turn_by e k c turn r q same h = subst (λ (x : Run). IsTurn e (stepped k c x) turn) same h

pub returns-clause-turn : goal.returns-clause-turn
returns-clause-turn g c = λ xs h t n.
    let ev = c.args.event.now in
    let p = program ev.call (caller ev) (nat_lt 1 (length xs)) c.args.io.now (stream_of ev.sub xs) in
    let st = returns-clause-step g c xs h n in
    let same = run_told (all_tell (members_of c.args.self.now.members)) p ev.sub xs c.event-carried.new.acts st.answer st.left t st.runs in
    turn_by ev.call ev.sub (caller ev) _ _ _ same (record { reply = st.reply; woken = st.woken; acts = refl; first = st.first; moved = st.moved })

pub returns-clause-stands : goal.returns-clause-stands
returns-clause-stands g c = λ xs h t n.
    let ev = c.args.event.now in
    let p = program ev.call (caller ev) (nat_lt 1 (length xs)) c.args.io.now (stream_of ev.sub xs) in
    let st = returns-clause-step g c xs h n in
    let same = run_told (all_tell (members_of c.args.self.now.members)) p ev.sub xs c.event-carried.new.acts st.answer st.left t st.runs in
    subst (λ (r : Run). AllStandFor (members_of c.wake_all-woken.new.members) (stepped ev.sub (caller ev) r).members) same st.stands

pub returns-clause-memory : goal.returns-clause-memory
returns-clause-memory g c = λ xs h e.
    let mid = c.event-carried.ensures.memory xs h e in
    unwoken (group_drains xs) (members_of c.wake_all-woken.new.members) xs (c.args.self.now.waiting xs h) (c.wake_all-woken.ensures.stands xs mid)

pub returns-clause-idle : goal.returns-clause-idle
returns-clause-idle g c e = record {
  acts = c.event-carried.ensures.idle e ∙ c.new-acts.ensures;
  first = (c.event-carried.ensures.still e).0;
  moved = (c.event-carried.ensures.still e).1;
}

pub returns-clause-unwoken : goal.returns-clause-unwoken
returns-clause-unwoken g c = λ xs h e.
    c.wake_all-woken.ensures.mask xs (c.event-carried.ensures.memory xs h e) ∙ ap mask_of (nobody_woken (group_drains xs) xs (c.args.self.now.waiting xs h))

pub returns-clause-loaded : goal.returns-clause-loaded
returns-clause-loaded g c = λ xs h.
    let ms = members_of c.args.self.now.members in
    let sub = c.args.event.now.sub in
    c.event-carried.ensures.loaded sub (all_tell ms) xs (IsAt-of ms c.place_of-place.result sub xs c.args.self.now.distinct c.place_of-place.ensures.number h)

pub returns-clause-tells : goal.returns-clause-tells
returns-clause-tells g c = c.wake_all-woken.ensures.tells ∙ c.event-carried.ensures.cards.tells

pub returns-clause-faults : goal.returns-clause-faults
returns-clause-faults g c =
    let before = all_faults (members_of c.args.self.now.members) in
    subst (λ (l : List ℕ). FaultsOver c.event-carried.new.acts before l) (sym c.wake_all-woken.ensures.faults)
    (c.event-carried.ensures.cards.faults before (subst (λ (ds : List Acted). FaultsOver ds before before) (sym c.new-acts.ensures) refl))

pub returns-clause-transferred : goal.returns-clause-transferred
returns-clause-transferred g c = λ xs h t n unlent.
    let ev = c.args.event.now in
    let p = program ev.call (caller ev) (nat_lt 1 (length xs)) c.args.io.now (stream_of ev.sub xs) in
    let st = returns-clause-step g c xs h n in
    let same = run_told (all_tell (members_of c.args.self.now.members)) p ev.sub xs c.event-carried.new.acts st.answer st.left t st.runs in
    st.bytes unlent ∙ ap (λ (r : Run). bytes_left ev.call (caller ev) (stream_of ev.sub xs) r.answer c.args.io.now) same
