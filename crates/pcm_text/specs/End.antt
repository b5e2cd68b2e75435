-- The line that tells a substream after the last line of the transcript. This project's own.
use Rattle.std.specs.Prelude.{ℕ, List, ◌++◌, codes, decimal}
use Rattle.pcm_base.specs.declared.ids.SubId.{SubId}
use Rattle.pcm_base.specs.declared.reply.Page.{Page}
use Rattle.pcm_text.specs.Names.{state_name}
use Rattle.pcm_text.specs.Told.{pointers_text}

abbrev pub end_line : SubId → Page → ℕ → List ℕ
end_line sub page moved =
    codes "end s" ++ decimal sub.0 ++ codes " " ++ state_name page.state ++ codes " " ++ pointers_text page
    ++ codes " moved " ++ decimal moved ++ codes "\n"
