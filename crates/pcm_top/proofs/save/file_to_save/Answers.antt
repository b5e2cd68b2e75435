use Rattle.std.proofs.Common.{◌≡◌, ◌∙◌, ◌&&◌, refl, sym, ap, subst, true, false, ℕ, List, length, ◌%◌}
use Rattle.std.specs.declared.option.Option.{Option}
use Rattle.pcm_base.specs.declared.config.Config.{Config}
use Rattle.pcm_base.specs.declared.state.Dir.{Dir}
use Rattle.pcm_base.specs.model.Words.{is_closed, is_playback}
use Rattle.pcm_base.specs.model.World.{stream_in}
use Rattle.pcm_top.specs.Run.{has_wav_format, is_wav_format}
use Rattle.pcm_top.proofs.SessionLemmas.{and_second, is-closed, state-undeclared, save-refusal, unset-savable, stream-can-write, saved-file}
use Rattle.pcm_top.proofs.save.file_to_save.Goals as goal
use Rattle.pcm_top.proofs.save.file_to_save.Goals.{in_default-config-via-in-Some-config+else-is_savable, in_default-config-via-in_default-config}

pub returns-in_default : goal.returns-in_default
returns-in_default c = λ w is.
    save-refusal c.args.sub w true _ (ap is_closed (sym (state-undeclared c.args.sub w (c.in_default.ensures.none w is)))) refl

pub write_wav-requires : goal.write_wav-requires
write_wav-requires c =
    let s = stream_in c.args.sub c.requires.stands.0 in
    let stands = c.in-Some.ensures.some c.requires.stands.0 c.requires.stands.1 in
    let config = c.in-Some-config.config.now in
    let has = sym (c.in-Some-config.ensures s stands) in
    let wav = and_second (is_playback c.dir.result) (is_wav_format config.format) (sym c.is_savable.ensures ∙ c.if-is_savable.true) in
    let frames = c.in_ok-to_vec-in-Some-config.ensures.items_if_clones_equal (λ x y h. h) ∙ c.taken.ensures in
    let whole = c.card.ensures.whole s stands config has in
    stream-can-write s config c.in_ok-to_vec-in-Some-config.field-0.items (c.has_wav_numbers.ensures c.if-not-has_wav_numbers.false) stands.sound has wav
    (subst (λ (l : List ℕ). length l % s.setup.frame_bytes ≡ 0) (sym frames) whole)

pub returns-in-Ok : goal.returns-in-Ok
returns-in-Ok c w is =
    let s = stream_in c.args.sub w in
    let stands = c.in-Some.ensures.some w is in
    let config = c.in-Some-config.config.now in
    let has = sym (c.in-Some-config.ensures s stands) in
    let opened = ap is_closed (sym (c.state.ensures s stands)) ∙ sym (is-closed c.state.result c.eq.result c.eq.ensures) ∙ c.if-eq.false in
    let savable =
    ap (λ (o : Option Config). is_playback s.dir && has_wav_format o) has
    ∙ ap (λ (d : Dir). is_playback d && is_wav_format config.format) (sym (c.dir.ensures s stands))
    ∙ sym c.is_savable.ensures
    ∙ c.if-is_savable.true in
    let frames = c.in_ok-to_vec-in-Some-config.ensures.items_if_clones_equal (λ x y h. h) ∙ c.taken.ensures ∙ c.card.ensures.taken s stands in
    (save-refusal c.args.sub w false true opened savable, saved-file s config c.in_ok-to_vec-in-Some-config.field-0.items c.in-Ok.file.items has frames c.in-Ok.ensures.bytes)

pub returns : goal.returns
returns c w is =
    let s = stream_in c.args.sub w in
    let stands = c.in-Some.ensures.some w is in
    let opened = ap is_closed (sym (c.state.ensures s stands)) ∙ sym (is-closed c.state.result c.eq.result c.eq.ensures) ∙ c.if-eq.false in
    save-refusal c.args.sub w false false opened
    (elim c.in_default-config.branch [
      | in_default-config-via-in-Some-config+else-is_savable x ↦
          ap (λ (o : Option Config). is_playback s.dir && has_wav_format o) (sym (x.in-Some-config.ensures s stands))
          ∙ ap (λ (d : Dir). is_playback d && is_wav_format x.in-Some-config.config.now.format) (sym (x.dir.ensures s stands))
          ∙ sym x.is_savable.ensures
          ∙ x.if-is_savable.false
      | in_default-config-via-in_default-config x ↦ unset-savable s.dir s.setup.config (sym (x.in_default-config.ensures s stands))
    ])
