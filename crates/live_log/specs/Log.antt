-- The text of logs: a line for each entry. This project's own.
use Rattle.std.specs.Prelude.{ℕ, List, [], ◌∷◌, ◌++◌, ◌+◌, codes, decimal}
use Rattle.std.specs.List.{flat_map}
use Rattle.pcm_base.specs.declared.ids.SubId.{SubId}
use Rattle.pcm_base.specs.declared.state.Dir.{Dir}
use Rattle.floor_rule.specs.declared.entry.Entry.{Entry}
use Rattle.pcm_line.specs.Kinds.{OfSub, spelled}
use Rattle.live_log.specs.declared.log.LogOf.{LogOf}
use Rattle.live_log.specs.Entry.{entry_text}

-- the substream, the entry's place in its log, and the entry
abbrev pub entry_line : Dir → SubId → ℕ → Entry → List ℕ
entry_line dir sub place e = spelled OfSub sub ++ codes " " ++ decimal place ++ codes " " ++ entry_text dir e ++ codes "\n"

-- the lines of entries, the first of which stands at this place
abbrev pub lines_from : Dir → SubId → ℕ → List Entry → List ℕ
lines_from dir sub place [] = []
lines_from dir sub place (e ∷ entries) = entry_line dir sub place e ++ lines_from dir sub (place + 1) entries

abbrev pub log_text : LogOf → List ℕ
log_text log = lines_from log.dir log.sub 0 log.entries.now

-- one log behind the other
abbrev pub logs_text : List LogOf → List ℕ
logs_text logs = flat_map log_text logs
