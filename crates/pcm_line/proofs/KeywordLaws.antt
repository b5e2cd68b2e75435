-- Keywords: each is found, has no space, and what is found is spelled so.
use Rattle.std.specs.Prelude.{Option, Some, None, length, ◌==◌, nat_lt}
use Rattle.std.proofs.Common.{◌≡◌, Bool, true, false, cond, ℕ, List, refl}
use Rattle.pcm_line.specs.Tables.{entry_for, or_else, four_letters, keyword_for, words_of_four, other_words_of_four, words_of_five, words_of_six, words_of_seven, short_words}
use Rattle.pcm_line.specs.declared.keyword.Keyword.{Keyword}
use Rattle.pcm_line.specs.declared.keyword.Keyword.TheVariants as keyword
use Rattle.pcm_line.specs.Keywords.{text_of}
use Rattle.pcm_line.proofs.Cutting.{no_space}
use Rattle.pcm_line.proofs.WordTables.{entry_for-is}

pub keyword-again : (k : Keyword) → (no_space (text_of k) ≡ true) × (keyword_for (text_of k) ≡ Some k)
keyword-again keyword.Writei = (refl, refl)
keyword-again keyword.Move = (refl, refl)
keyword-again keyword.Irq = (refl, refl)
keyword-again keyword.Status = (refl, refl)
keyword-again keyword.Readi = (refl, refl)
keyword-again keyword.Writen = (refl, refl)
keyword-again keyword.Readn = (refl, refl)
keyword-again keyword.Store = (refl, refl)
keyword-again keyword.Load = (refl, refl)
keyword-again keyword.Rewind = (refl, refl)
keyword-again keyword.Forward = (refl, refl)
keyword-again keyword.Sync = (refl, refl)
keyword-again keyword.Hwsync = (refl, refl)
keyword-again keyword.Delay = (refl, refl)
keyword-again keyword.Page = (refl, refl)
keyword-again keyword.Poll = (refl, refl)
keyword-again keyword.Prepare = (refl, refl)
keyword-again keyword.Start = (refl, refl)
keyword-again keyword.Drop = (refl, refl)
keyword-again keyword.Drain = (refl, refl)
keyword-again keyword.Xrun = (refl, refl)
keyword-again keyword.Pause = (refl, refl)
keyword-again keyword.Release = (refl, refl)
keyword-again keyword.Suspend = (refl, refl)
keyword-again keyword.Resume = (refl, refl)
keyword-again keyword.Go = (refl, refl)
keyword-again keyword.Link = (refl, refl)
keyword-again keyword.Unlink = (refl, refl)
keyword-again keyword.Mmap = (refl, refl)
keyword-again keyword.Munmap = (refl, refl)
keyword-again keyword.Open = (refl, refl)
keyword-again keyword.Close = (refl, refl)
keyword-again keyword.Hw = (refl, refl)
keyword-again keyword.Hwfree = (refl, refl)
keyword-again keyword.Sw = (refl, refl)
keyword-again keyword.Long = (refl, refl)
keyword-again keyword.Card = (refl, refl)
keyword-again keyword.Fail = (refl, refl)
keyword-again keyword.Unplug = (refl, refl)
keyword-again keyword.Give = (refl, refl)
keyword-again keyword.Feed = (refl, refl)
keyword-again keyword.Save = (refl, refl)
keyword-again keyword.Space = (refl, refl)
keyword-again keyword.Beat = (refl, refl)
keyword-again keyword.Threads = (refl, refl)
keyword-again keyword.Join = (refl, refl)
keyword-again keyword.Version = (refl, refl)
keyword-again keyword.Carry = (refl, refl)
keyword-again keyword.Wire = (refl, refl)

or_else-is : (p : List ℕ) (k : Keyword) (a b : Option Keyword) → (a ≡ Some k → p ≡ text_of k) → (b ≡ Some k → p ≡ text_of k) → or_else a b ≡ Some k → p ≡ text_of k
or_else-is p k None b f g e = g e
or_else-is p k (Some x) b f g e = f e

either-is : (p : List ℕ) (k : Keyword) (t : Bool) (a b : Option Keyword) → (a ≡ Some k → p ≡ text_of k) → (b ≡ Some k → p ≡ text_of k) → cond t a b ≡ Some k → p ≡ text_of k
either-is p k true a b f g e = f e
either-is p k false a b f g e = g e

pub keyword_for-is : (p : List ℕ) (k : Keyword) → keyword_for p ≡ Some k → p ≡ text_of k
keyword_for-is p k e =
    let four : entry_for p words_of_four ≡ Some k → p ≡ text_of k = entry_for-is text_of p k words_of_four (refl, (refl, (refl, (refl, (refl, (refl, (refl, (refl, (refl, tt))))))))) in
    let more : entry_for p other_words_of_four ≡ Some k → p ≡ text_of k = entry_for-is text_of p k other_words_of_four (refl, (refl, (refl, (refl, (refl, (refl, (refl, (refl, (refl, (refl, tt)))))))))) in
    let six : entry_for p words_of_six ≡ Some k → p ≡ text_of k = entry_for-is text_of p k words_of_six (refl, (refl, (refl, (refl, (refl, (refl, (refl, (refl, (refl, (refl, tt)))))))))) in
    let few : entry_for p short_words ≡ Some k → p ≡ text_of k = entry_for-is text_of p k short_words (refl, (refl, (refl, (refl, tt)))) in
    let five : entry_for p words_of_five ≡ Some k → p ≡ text_of k = entry_for-is text_of p k words_of_five (refl, (refl, (refl, (refl, (refl, (refl, (refl, (refl, (refl, (refl, tt)))))))))) in
    let seven : entry_for p words_of_seven ≡ Some k → p ≡ text_of k = entry_for-is text_of p k words_of_seven (refl, (refl, (refl, (refl, (refl, (refl, tt)))))) in
    let fives = either-is p k (length p == 5) (entry_for p words_of_five) (entry_for p words_of_seven) five seven in
    let fews = either-is p k (nat_lt (length p) 4) (entry_for p short_words) (cond (length p == 5) (entry_for p words_of_five) (entry_for p words_of_seven)) few fives in
    let sixes = either-is p k (length p == 6) (entry_for p words_of_six) (cond (nat_lt (length p) 4) (entry_for p short_words) (cond (length p == 5) (entry_for p words_of_five) (entry_for p words_of_seven))) six fews in
    let fours = or_else-is p k (entry_for p words_of_four) (entry_for p other_words_of_four) four more in
    either-is p k (length p == 4) (four_letters p) (cond (length p == 6) (entry_for p words_of_six) (cond (nat_lt (length p) 4) (entry_for p short_words) (cond (length p == 5) (entry_for p words_of_five) (entry_for p words_of_seven)))) fours sixes e
