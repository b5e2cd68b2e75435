use Rattle.std.proofs.Common.{append_assoc}
use Rattle.wav_file.proofs.writing.put_format.Goals as goal

pub returns : goal.returns
returns c =
    rw (c.in_ok-put_extension.ensures, c.in_ok-put_u16-4.ensures, c.in_ok-put_u16-3.ensures, c.in_ok-put_u32-3.ensures, c.in_ok-put_u32-2.ensures, c.in_ok-put_u16-2.ensures, c.in_ok-put_u16.ensures, c.in_ok-put_u32.ensures, c.in_ok-extend_from_slice.ensures.items, c.from.ensures, c.width_of-width.ensures, c.body_size.ensures, c.tag_of.ensures) (simp append_assoc)
