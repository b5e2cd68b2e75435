use Rattle.std.proofs.Common.{◌≡◌, ◌∙◌, Bool, false, [], refl, sym, subst}
use Rattle.std.proofs.lemmas.Result.{err_from_is_err_and}
use Rattle.wav_file.specs.Recordings.{recording}
use Rattle.live_top.specs.Files.{is_of_config}
use Rattle.live_top.specs.Setup.{IsGivenIf}
use Rattle.live_top.proofs.SetupLines.{fed_halt}
use Rattle.live_top.proofs.SetupPasses.{none_have}
use Rattle.live_top.proofs.setup.feed.Goals as goal

pub returns-in_err-wav-clause-halted : goal.returns-in_err-wav-clause-halted
returns-in_err-wav-clause-halted g c =
    let p = err_from_is_err_and c.from_residual.result c.from_residual.ensures.1 in
    rw (p.1, p.2) (fed_halt (g.S.Shelf.files c.args.shelf.now) c.args.sub c.args.name.now c.in_err-wav.field-0.0 c.in_err-wav.ensures.ended)

pub returns-then-not-has_config-clause-made : goal.returns-then-not-has_config-clause-made
returns-then-not-has_config-clause-made g c =
    let r = recording c.in_ok-wav.wav in
    let other : is_of_config r c.args.config ≡ false = sym c.has_config.ensures ∙ c.if-not-has_config.true in
    let none : IsGivenIf (is_of_config r c.args.config) r.frames c.args.sub [] = subst (λ (b : Bool). IsGivenIf b r.frames c.args.sub []) (sym other) refl in
    ([], (r, c.in_ok-wav.ensures.found, none), none_have g.N.FloorName.cards g.N.FloorName.long_max c.args.passes.now.clients.items c.args.passes.now.cards.items)
