use Rattle.std.proofs.Common.{◌≡◌, [], ◌∷◌, List, ℕ, ap, ◌∙◌, subst, sym}
use Rattle.pcm_base.specs.model.Group.{stream_of}
use Rattle.pcm_stream.specs.MembersStand.{AllStandFor}
use Rattle.pcm_group.specs.Bytes.{bytes_left}
use Rattle.pcm_group.specs.Inside.{members_in}
use Rattle.pcm_group.specs.Stepped.{all_true}
use Rattle.pcm_group.specs.Turn.{caller_of}
use Rattle.play_record.specs.Stages.{lone}
use Rattle.play_record.proofs.At.{also-at, free-at, member-at}
use Rattle.play_record.proofs.Lone.{step-lone, stream-lone}
use Rattle.play_record.proofs.device.step.Goals as goal

pub step-requires-clause-member : goal.step-requires-clause-member
step-requires-clause-member g c = member-at (members_in c.args.group.now) c.args.sub c.requires.device.0 c.requires.device.1

pub step-requires-clause-free : goal.step-requires-clause-free
step-requires-clause-free g c = λ k is. free-at (members_in c.args.group.now) c.args.sub c.requires.device.0 c.args.call k c.requires.device.1

pub step-requires-clause-length : goal.step-requires-clause-length
step-requires-clause-length g c = λ xs other.
    c.requires.length (stream_of c.args.sub xs) (also-at (members_in c.args.group.now) c.args.sub c.requires.device.0 xs c.requires.device.1 other)

pub returns-clause-goes : goal.returns-clause-goes
returns-clause-goes g c = λ s t a at goes calls got.
    let k = c.args.sub in
    let d = step-lone c.args.call (caller_of c.args.client) k c.args.io.now s a t goes calls in
    let turn = c.step.ensures.turn (lone k s ∷ []) at.stands at.tells got in
    let stands = c.step.ensures.stands (lone k s ∷ []) at.stands at.tells got in (
      turn.reply ∙ ap (λ r. r.reply) d.0,
      record { stands = subst (λ xs. AllStandFor (members_in c.step.new.self) xs) d.1 stands; tells = ap all_true c.step.ensures.tells ∙ at.tells; calls = calls },
    )

pub returns-clause-bytes : goal.returns-clause-bytes
returns-clause-bytes g c = λ s t a at goes calls lent got.
    let k = c.args.sub in
    let client = caller_of c.args.client in
    let d = step-lone c.args.call client k c.args.io.now s a t goes calls in
    c.step.ensures.transferred (lone k s ∷ []) at.stands at.tells got lent
    ∙ (ap (λ r. bytes_left c.args.call client (stream_of k (lone k s ∷ [])) r c.args.io.now) d.0
    ∙ ap (λ v. bytes_left c.args.call client v a c.args.io.now) (stream-lone k s))
