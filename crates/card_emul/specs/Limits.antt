-- What each named card model can do: rates in Hz, a period in frames, the greatest buffer in bytes. This project's own.
use Rattle.std.specs.Prelude.{ℕ, List, [], ◌∷◌, ◌+◌, ◌^◌, true, false}
use Rattle.pcm_base.specs.declared.config.CardModel.{CardModel}
use Rattle.pcm_base.specs.declared.config.Model.{Model}
use Rattle.pcm_base.specs.declared.config.Model.TheVariants as model
use Rattle.pcm_base.specs.declared.format.Access.{Access}
use Rattle.pcm_base.specs.declared.format.Access.TheVariants as access
use Rattle.pcm_base.specs.declared.format.Format.{Format}
use Rattle.pcm_base.specs.declared.format.Format.TheVariants as format
use Rattle.pcm_base.specs.Numbers.{access_number, format_number}

-- the mask of these accesses, and of these formats: each is the bit of its number
abbrev pub mask_of_accesses : List Access → ℕ
mask_of_accesses [] = 0
mask_of_accesses (x ∷ xs) = 2 ^ access_number x + mask_of_accesses xs

abbrev pub mask_of_formats : List Format → ℕ
mask_of_formats [] = 0
mask_of_formats (x ∷ xs) = 2 ^ format_number x + mask_of_formats xs

abbrev pub every_access : List Access
every_access = access.MmapInterleaved ∷ access.MmapNoninterleaved ∷ access.RwInterleaved ∷ access.RwNoninterleaved ∷ []

abbrev pub every_format : List Format
every_format = format.S8 ∷ format.U8 ∷ format.S16Le ∷ format.S16Be ∷ format.S24Le ∷ format.S32Le ∷ format.S32Be ∷ format.S24Le3 ∷ []

abbrev pub basic_formats : List Format
basic_formats = format.U8 ∷ format.S16Le ∷ []

abbrev pub studio_formats : List Format
studio_formats = format.S16Le ∷ format.S24Le ∷ format.S32Le ∷ format.S24Le3 ∷ []

abbrev pub basic : CardModel
basic = record {
  accesses = mask_of_accesses every_access;
  formats = mask_of_formats basic_formats;
  channels = record { least = 1; most = 2 };
  rate = record { least = 8000; most = 48000 };
  wide_rate = 48000;
  period = record { least = 1; most = 8192 };
  buffer_bytes = 65536;
  can_pause = true;
  can_resume = true;
}

abbrev pub duplex : CardModel
duplex = record {
  accesses = mask_of_accesses every_access;
  formats = mask_of_formats every_format;
  channels = record { least = 1; most = 8 };
  rate = record { least = 4000; most = 192000 };
  wide_rate = 192000;
  period = record { least = 1; most = 32768 };
  buffer_bytes = 2097152;
  can_pause = true;
  can_resume = true;
}

abbrev pub studio : CardModel
studio = record {
  accesses = mask_of_accesses every_access;
  formats = mask_of_formats studio_formats;
  channels = record { least = 1; most = 8 };
  rate = record { least = 44100; most = 192000 };
  wide_rate = 96000;
  period = record { least = 16; most = 8192 };
  buffer_bytes = 1048576;
  can_pause = true;
  can_resume = true;
}

-- the limits of each model; three are as basic, two of them but for pause and resume
abbrev pub limits_of : Model → CardModel
limits_of model.Basic = basic
limits_of model.Duplex = duplex
limits_of model.Studio = studio
limits_of model.NoPause = record basic { can_pause = false }
limits_of model.NoResume = record basic { can_resume = false }
limits_of model.Indirect = basic
