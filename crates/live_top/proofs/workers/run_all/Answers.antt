use Rattle.std.proofs.Common.{◌≡◌, rules, arith}
use Rattle.std.specs.List.{list_all}
use Rattle.std.specs.Option.{is_none}
use Rattle.std.specs.Result.{is_ok}
use Rattle.live_top.proofs.Jobs.{all_can, all_there, are_whose, first_worked, whole_worked}
use Rattle.live_top.proofs.workers.run_all.Goals as goal

pub work_all-requires-after_bounds : goal.work_all-requires-after_bounds
work_all-requires-after_bounds g c lifetimes bounds =
    let n = g.N.FloorName in
    let passes = c.args.passes in
    all_can n.cards n.long_max c.args.plan.now passes.clients.items passes.cards.items c.in_ok-jobs.jobs.items c.in_ok-card_jobs.field-0.items c.append.new.self.items
    c.requires.passes c.in_ok-jobs.ensures c.in_ok-card_jobs.ensures c.in_ok-append.ensures.items

pub parted-requires : goal.parted-requires
parted-requires g c =
    let n = g.N.FloorName in
    let passes = c.args.passes in
    let worked = c.in_ok-worked.worked in
    let many = all_there n.cards n.long_max c.args.plan.now passes.clients.items passes.cards.items c.in_ok-jobs.jobs.items c.in_ok-card_jobs.field-0.items c.append.new.self.items
    c.requires.passes c.in_ok-jobs.ensures c.in_ok-card_jobs.ensures c.in_ok-append.ensures.items worked.items c.in_ok-worked.ensures in
    omega (arith, many, worked.ok.0)

pub returns-clause-whose : goal.returns-clause-whose
returns-clause-whose g c =
    let n = g.N.FloorName in
    let passes = c.args.passes in
    let now = c.in_ok-parted.field-0 in
    are_whose n.cards n.long_max c.args.plan.now passes.clients.items passes.cards.items c.in_ok-jobs.jobs.items c.in_ok-card_jobs.field-0.items c.append.new.self.items
    c.requires.passes c.in_ok-jobs.ensures c.in_ok-card_jobs.ensures c.in_ok-append.ensures.items c.in_ok-worked.worked.items c.in_ok-worked.ensures
    now.clients.items now.cards.items c.in_ok-parted.ensures.clients c.in_ok-parted.ensures.cards

pub returns-clause-first : goal.returns-clause-first
returns-clause-first g c =
    let n = g.N.FloorName in
    let passes = c.args.passes in
    let now = c.in_ok-parted.field-0 in
    first_worked n.cards n.long_max c.args.plan.now passes.clients.items passes.cards.items c.in_ok-jobs.jobs.items c.in_ok-card_jobs.field-0.items c.append.new.self.items
    c.requires.passes c.in_ok-jobs.ensures c.in_ok-card_jobs.ensures c.in_ok-append.ensures.items c.in_ok-worked.worked.items c.in_ok-worked.ensures
    now.clients.items now.cards.items c.in_ok-parted.ensures.clients c.in_ok-parted.ensures.cards

pub returns-clause-whole : goal.returns-clause-whole
returns-clause-whole g c =
    let n = g.N.FloorName in
    let passes = c.args.passes in
    let now = c.in_ok-parted.field-0 in
    let ws = c.in_ok-worked.worked.items in
    let all : is_none c.stop_of-stop.result ≡ list_all (λ w. is_ok w.ran) ws = search rules in
    whole_worked n.cards n.long_max c.args.plan.now passes.clients.items passes.cards.items c.in_ok-jobs.jobs.items c.in_ok-card_jobs.field-0.items c.append.new.self.items
    c.requires.passes c.in_ok-jobs.ensures c.in_ok-card_jobs.ensures c.in_ok-append.ensures.items ws c.in_ok-worked.ensures
    now.clients.items now.cards.items c.in_ok-parted.ensures.clients c.in_ok-parted.ensures.cards c.stop_of-stop.result all
