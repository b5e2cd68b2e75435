-- Tables of words, in the order in which they are tried: the frequent ones first.
use Rattle.std.specs.Prelude.{ℕ, List, [], ◌∷◌, length, ◌==◌, nat_lt, if◌then◌else◌}
use Rattle.std.specs.declared.option.Option.{Option}
use Rattle.std.specs.declared.option.Option.TheVariants.{Some, None}
use Rattle.std.specs.Str.{bytes_eq}
use Rattle.pcm_base.specs.declared.call.Mode.{Mode}
use Rattle.pcm_base.specs.declared.call.Mode.TheVariants.{Block, NonBlock}
use Rattle.pcm_base.specs.declared.state.Dir.{Dir}
use Rattle.pcm_base.specs.declared.state.Dir.TheVariants.{Playback, Capture}
use Rattle.pcm_base.specs.declared.config.Model.{Model}
use Rattle.pcm_base.specs.declared.config.Model.TheVariants.{Basic, Duplex, Studio, NoPause, NoResume, Indirect}
use Rattle.pcm_base.specs.declared.format.Access.{Access}
use Rattle.pcm_base.specs.declared.format.Access.TheVariants.{MmapInterleaved, MmapNoninterleaved, RwInterleaved, RwNoninterleaved}
use Rattle.pcm_base.specs.declared.format.Format.{Format}
use Rattle.pcm_base.specs.declared.format.Format.TheVariants.{S8, U8, S16Le, S16Be, S24Le, S32Le, S32Be, S24Le3}
use Rattle.pcm_line.specs.Kinds.{mode_text, dir_text, model_text, access_text, format_text}
use Rattle.pcm_line.specs.Keywords.{text_of}
use Rattle.pcm_line.specs.declared.keyword.Keyword.{Keyword}
use Rattle.pcm_line.specs.declared.keyword.Keyword.TheVariants as keyword

abbrev pub entry_for : {A : Type 0} → List ℕ → List (List ℕ × A) → Option A
entry_for piece [] = None
entry_for piece (entry ∷ others) = if bytes_eq piece entry.0 then Some entry.1 else entry_for piece others

abbrev pub modes : List (List ℕ × Mode)
modes = (mode_text Block, Block) ∷ (mode_text NonBlock, NonBlock) ∷ []

abbrev pub dirs : List (List ℕ × Dir)
dirs = (dir_text Playback, Playback) ∷ (dir_text Capture, Capture) ∷ []

abbrev pub models : List (List ℕ × Model)
models = (model_text Basic, Basic) ∷ (model_text Duplex, Duplex) ∷ (model_text Studio, Studio) ∷ (model_text NoPause, NoPause) ∷ (model_text NoResume, NoResume) ∷ (model_text Indirect, Indirect) ∷ []

abbrev pub accesses : List (List ℕ × Access)
accesses = (access_text MmapInterleaved, MmapInterleaved) ∷ (access_text MmapNoninterleaved, MmapNoninterleaved) ∷ (access_text RwInterleaved, RwInterleaved) ∷ (access_text RwNoninterleaved, RwNoninterleaved) ∷ []

abbrev pub formats : List (List ℕ × Format)
formats = (format_text S8, S8) ∷ (format_text U8, U8) ∷ (format_text S16Le, S16Le) ∷ (format_text S16Be, S16Be) ∷ (format_text S24Le, S24Le) ∷ (format_text S32Le, S32Le) ∷ (format_text S32Be, S32Be) ∷ (format_text S24Le3, S24Le3) ∷ []

abbrev pub keyword_entry : Keyword → List ℕ × Keyword
keyword_entry k = (text_of k, k)

abbrev pub words_of_four : List (List ℕ × Keyword)
words_of_four = keyword_entry keyword.Move ∷ keyword_entry keyword.Page ∷ keyword_entry keyword.Poll ∷ keyword_entry keyword.Sync ∷ keyword_entry keyword.Load ∷ keyword_entry keyword.Drop ∷ keyword_entry keyword.Xrun ∷ keyword_entry keyword.Give ∷ keyword_entry keyword.Link ∷ []

abbrev pub other_words_of_four : List (List ℕ × Keyword)
other_words_of_four = keyword_entry keyword.Mmap ∷ keyword_entry keyword.Open ∷ keyword_entry keyword.Long ∷ keyword_entry keyword.Card ∷ keyword_entry keyword.Fail ∷ keyword_entry keyword.Feed ∷ keyword_entry keyword.Save ∷ keyword_entry keyword.Beat ∷ keyword_entry keyword.Wire ∷ keyword_entry keyword.Join ∷ []

abbrev pub words_of_six : List (List ℕ × Keyword)
words_of_six = keyword_entry keyword.Writei ∷ keyword_entry keyword.Status ∷ keyword_entry keyword.Writen ∷ keyword_entry keyword.Hwsync ∷ keyword_entry keyword.Rewind ∷ keyword_entry keyword.Resume ∷ keyword_entry keyword.Unlink ∷ keyword_entry keyword.Munmap ∷ keyword_entry keyword.Hwfree ∷ keyword_entry keyword.Unplug ∷ []

abbrev pub short_words : List (List ℕ × Keyword)
short_words = keyword_entry keyword.Irq ∷ keyword_entry keyword.Go ∷ keyword_entry keyword.Hw ∷ keyword_entry keyword.Sw ∷ []

abbrev pub words_of_five : List (List ℕ × Keyword)
words_of_five = keyword_entry keyword.Readi ∷ keyword_entry keyword.Space ∷ keyword_entry keyword.Readn ∷ keyword_entry keyword.Store ∷ keyword_entry keyword.Delay ∷ keyword_entry keyword.Start ∷ keyword_entry keyword.Drain ∷ keyword_entry keyword.Pause ∷ keyword_entry keyword.Close ∷ keyword_entry keyword.Carry ∷ []

abbrev pub words_of_seven : List (List ℕ × Keyword)
words_of_seven = keyword_entry keyword.Prepare ∷ keyword_entry keyword.Forward ∷ keyword_entry keyword.Release ∷ keyword_entry keyword.Suspend ∷ keyword_entry keyword.Threads ∷ keyword_entry keyword.Version ∷ []

abbrev pub or_else : Option Keyword → Option Keyword → Option Keyword
or_else None other = other
or_else (Some k) other = Some k

abbrev pub four_letters : List ℕ → Option Keyword
four_letters piece = or_else (entry_for piece words_of_four) (entry_for piece other_words_of_four)

-- the keyword that a piece is, by its length
abbrev pub keyword_for : List ℕ → Option Keyword
keyword_for piece =
    if length piece == 4 then four_letters piece
    else (if length piece == 6 then entry_for piece words_of_six
    else (if nat_lt (length piece) 4 then entry_for piece short_words
    else (if length piece == 5 then entry_for piece words_of_five
    else entry_for piece words_of_seven)))
