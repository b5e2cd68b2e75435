-- The parts of a line are short.
use Rattle.std.proofs.Common.{ℕ, ◌≤◌, ◌<◌, ◌^◌, length, arith}
use Rattle.std.proofs.lemmas.Fmt.{length-decimal-le}
use Rattle.std.specs.Fmt.{decimal}
use Rattle.pcm_base.specs.declared.state.Errno.{Errno}
use Rattle.pcm_base.specs.declared.state.Errno.TheVariants as errno
use Rattle.pcm_text.specs.Names.{errno_name}

pub short : (n : ℕ) → n < 2 ^ 64 → length (decimal n) ≤ 20
short n fits = length-decimal-le 20 n (omega arith) (omega arith) fits

pub short-errno : (e : Errno) → length (errno_name e) ≤ 8
short-errno errno.Eio = omega arith
short-errno errno.Enxio = omega arith
short-errno errno.Eagain = omega arith
short-errno errno.Ebusy = omega arith
short-errno errno.Einval = omega arith
short-errno errno.Epipe = omega arith
short-errno errno.Enosys = omega arith
short-errno errno.Ebadfd = omega arith
short-errno errno.Estrpipe = omega arith
short-errno errno.Ealready = omega arith
