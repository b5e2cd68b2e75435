use Rattle.std.proofs.Common.{◌≡◌, List, length, get_or, sym, ap, ◌∙◌, subst, arith}
use Rattle.std.proofs.lemmas.Option.{slice_get_within}
use Rattle.card_emul.specs.declared.any_card.AnyCard.{AnyCard}
use Rattle.card_emul.specs.contracts.any_card.AnyCardCard.TheImpl.{ghosts}
use Rattle.pcm_stream.specs.declared.members.Member.{Member}
use Rattle.pcm_stream.specs.Members.{members_of, numbers_of}
use Rattle.pcm_stream.specs.MembersStand.{AllStandFor}
use Rattle.floor_rule.specs.declared.rule.RecKnows.{RecKnows}
use Rattle.room_lock.proofs.ReadyLemmas.{known_at}
use Rattle.room_lock.proofs.RecLemmas.{found, no_rec}
use Rattle.room_lock.proofs.Records.{number_at}
use Rattle.room_lock.proofs.contents.Contents.prepare.Goals as goal

pub returns-clause-plan : goal.returns-clause-plan
returns-clause-plan g c = λ xs st.
    let rs = c.args.self.now.recs.items in
    let own = c.args.own in
    let r = get_or rs own no_rec in
    let at = found rs own c.requires.own in
    let same = c.members-members.ensures.members in
    let numbers = c.requires.members ∙ sym (ap (λ (l : List (Member AnyCard ghosts)). numbers_of l) same) in
    c.in_ok-plan.ensures.plan xs (number_at (numbers_of (members_of c.members-members.result.now)) rs own r c.args.event.now.sub numbers at (c.requires.sub r at)) (subst (λ (l : List (Member AnyCard ghosts)). AllStandFor l xs) (sym same) st)

pub returns-clause-room : goal.returns-clause-room
returns-clause-room g c = λ i r at.
    let rs = c.args.self.now.recs.items in
    let ts = c.reserve_all.new.recs.items in
    let old = known_at rs ts i r c.reserve_all.ensures.same at in
    let short = c.requires.short i old.0 (slice_get_within rs i old.0 old.1) old.1 in
    let log_is : length r.knows.log ≡ length old.0.knows.log = ap (λ (k : RecKnows). length k.log) old.2 in
    (c.in-Ok.ensures.spare i r (slice_get_within ts i r at) at, omega (arith, short, log_is))
