use Rattle.std.proofs.Common.{◌≡◌, inr, rules}
use Rattle.std.proofs.lemmas.Result.{on_err_weaker, on_ok_weaker}
use Rattle.live_work.specs.Runs.{HasRunLine, io_of}
use Rattle.live_work.proofs.Running.{line_run}
use Rattle.live_work.proofs.client.run_line.Given as given
use Rattle.live_work.proofs.client.run_line.Goals as goal

has_run : (g : given.Over) (c : goal.After-drop-io-2 g) → HasRunLine g.N.FloorName.cards g.N.FloorName.long_max c.args.line.now c.args.pass.now c.carry_on.new.pass
has_run g c =
    let e = c.in-Event.event in
    let bytes = c.in-Event.bytes in
    let handed : c.deref_mut.result.now ≡ io_of e.call bytes = search rules in
    let again : c.as_slice-2.result.now ≡ bytes = search rules in
    line_run g.N.FloorName.cards g.N.FloorName.long_max c.args.line.now e bytes c.as_slice-2.result.now c.deref_mut.result.now c.args.pass.now c.make.new.pass c.carry_on.new.pass c.in-Event.is handed again c.in_ok-make.ensures.made c.carry_on.ensures.gos

pub returns-clause-ran : goal.returns-clause-ran
returns-clause-ran g c = on_ok_weaker c.carry_on.result (λ idle. (has_run g c, idle)) c.carry_on.ensures.idle

pub returns-clause-part : goal.returns-clause-part
returns-clause-part g c = on_err_weaker {P = Unit {0}} c.carry_on.result (λ _. inr (has_run g c)) (search rules)
