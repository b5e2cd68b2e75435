use Rattle.std.proofs.Common.{◌≡◌, ◌∙◌, ◌%◌, ℕ, List, length, subst, sym}
use Rattle.live_top.proofs.Saving.{can_write, file_is}
use Rattle.live_top.proofs.files.file_to_save.Goals as goal

pub write_wav-requires : goal.write_wav-requires
write_wav-requires g c =
    let s = c.requires.0 in
    let stands = c.requires.1 in
    let config = c.in-Some.config.now in
    let has = sym (c.in-Some.ensures s stands) in
    let wav = sym c.is_wav_format.ensures ∙ c.if-is_wav_format.true in
    let frames = c.in_ok-to_vec-in-Some.ensures.items_if_clones_equal (λ x y h. h) ∙ c.taken.ensures in
    let whole = c.card.ensures.whole s stands config has in
    can_write s config c.in_ok-to_vec-in-Some.field-0.items (c.has_wav_numbers.ensures c.if-not-has_wav_numbers.false) stands.sound has wav
    (subst (λ (l : List ℕ). length l % s.setup.frame_bytes ≡ 0) (sym frames) whole)

pub returns-in-Ok : goal.returns-in-Ok
returns-in-Ok g c s stands =
    let has = sym (c.in-Some.ensures s stands) in
    let wav = sym c.is_wav_format.ensures ∙ c.if-is_wav_format.true in
    let frames = c.in_ok-to_vec-in-Some.ensures.items_if_clones_equal (λ x y h. h) ∙ c.taken.ensures ∙ c.card.ensures.taken s stands in
    file_is s c.in-Some.config.now c.in_ok-to_vec-in-Some.field-0.items c.in-Ok.file.items (sym (c.takes.ensures s stands) ∙ c.if-not-takes.false) has wav frames c.in-Ok.ensures.bytes
