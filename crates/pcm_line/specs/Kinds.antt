-- The kinds of pieces: their values, the one spelling of each value, and which values have one. This project's own.
use Rattle.std.specs.Prelude.{◌≡◌, ℕ, ◌+◌, ◌/◌, ◌%◌, ◌<◌, ◌^◌, nat_lt, if◌then◌else◌, true, List, [], ◌∷◌, ◌++◌, codes}
use Rattle.std.specs.Fmt.{decimal}
use Rattle.std.specs.List.{AllByRecursion}
use Rattle.pcm_base.specs.Name.{is_name}
use Rattle.pcm_base.specs.declared.ids.ClientId.{ClientId}
use Rattle.pcm_base.specs.declared.ids.SubId.{SubId}
use Rattle.pcm_base.specs.declared.call.Mode.{Mode}
use Rattle.pcm_base.specs.declared.call.Mode.TheVariants.{Block, NonBlock}
use Rattle.pcm_base.specs.declared.state.Dir.{Dir}
use Rattle.pcm_base.specs.declared.state.Dir.TheVariants.{Playback, Capture}
use Rattle.pcm_base.specs.declared.config.Model.{Model}
use Rattle.pcm_base.specs.declared.config.Model.TheVariants.{Basic, Duplex, Studio, NoPause, NoResume, Indirect}
use Rattle.pcm_base.specs.declared.format.Access.{Access}
use Rattle.pcm_base.specs.declared.format.Access.TheVariants.{MmapInterleaved, MmapNoninterleaved, RwInterleaved, RwNoninterleaved}
use Rattle.pcm_base.specs.declared.format.Format.{Format}
use Rattle.pcm_base.specs.declared.format.Format.TheVariants.{S8, U8, S16Le, S16Be, S24Le, S32Le, S32Be, S24Le3}

pub data Kind : Type 0 where
  OfNumber : Kind
  OfClient : Kind
  OfSub : Kind
  OfMode : Kind
  OfDir : Kind
  OfModel : Kind
  OfAccess : Kind
  OfFormat : Kind
  OfHex : Kind
  OfName : Kind

abbrev pub Value : Kind → Type 0
Value OfNumber = ℕ
Value OfClient = ClientId
Value OfSub = SubId
Value OfMode = Mode
Value OfDir = Dir
Value OfModel = Model
Value OfAccess = Access
Value OfFormat = Format
Value OfHex = List ℕ
Value OfName = List ℕ

abbrev pub mode_text : Mode → List ℕ
mode_text Block = codes "b"
mode_text NonBlock = codes "n"

abbrev pub dir_text : Dir → List ℕ
dir_text Playback = codes "p"
dir_text Capture = codes "c"

abbrev pub model_text : Model → List ℕ
model_text Basic = codes "basic"
model_text Duplex = codes "duplex"
model_text Studio = codes "studio"
model_text NoPause = codes "nopause"
model_text NoResume = codes "noresume"
model_text Indirect = codes "indirect"

abbrev pub access_text : Access → List ℕ
access_text MmapInterleaved = codes "MMAP_INTERLEAVED"
access_text MmapNoninterleaved = codes "MMAP_NONINTERLEAVED"
access_text RwInterleaved = codes "RW_INTERLEAVED"
access_text RwNoninterleaved = codes "RW_NONINTERLEAVED"

abbrev pub format_text : Format → List ℕ
format_text S8 = codes "S8"
format_text U8 = codes "U8"
format_text S16Le = codes "S16_LE"
format_text S16Be = codes "S16_BE"
format_text S24Le = codes "S24_LE"
format_text S32Le = codes "S32_LE"
format_text S32Be = codes "S32_BE"
format_text S24Le3 = codes "S24_3LE"

-- the digit of a number below 16: 0 to 9, then a to f
abbrev pub hex_digit : ℕ → ℕ
hex_digit n = if nat_lt n 10 then 48 + n else 87 + n

-- two digits for each byte, the high one first
abbrev pub hex_pairs : List ℕ → List ℕ
hex_pairs [] = []
hex_pairs (b ∷ bytes) = hex_digit (b / 16) ∷ hex_digit (b % 16) ∷ hex_pairs bytes

-- "-" for no bytes
abbrev pub hex_text : List ℕ → List ℕ
hex_text [] = codes "-"
hex_text (b ∷ bytes) = hex_pairs (b ∷ bytes)

-- the one spelling of a value
abbrev pub spelled : (k : Kind) → Value k → List ℕ
spelled OfNumber n = decimal n
spelled OfClient c = codes "c" ++ decimal c.0
spelled OfSub s = codes "s" ++ decimal s.0
spelled OfMode m = mode_text m
spelled OfDir d = dir_text d
spelled OfModel m = model_text m
spelled OfAccess a = access_text a
spelled OfFormat f = format_text f
spelled OfHex bytes = hex_text bytes
spelled OfName bytes = bytes

-- the values that have a spelling
abbrev pub Fits : (k : Kind) → Value k → Type 0
Fits OfNumber n = n < 2 ^ 63
Fits OfClient c = c.0 < 16
Fits OfSub s = s.0 < 16
Fits OfMode m = Unit {0}
Fits OfDir d = Unit {0}
Fits OfModel m = Unit {0}
Fits OfAccess a = Unit {0}
Fits OfFormat f = Unit {0}
Fits OfHex bytes = AllByRecursion (λ b. b < 256) bytes
Fits OfName bytes = is_name bytes ≡ true
