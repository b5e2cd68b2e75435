mod ScriptLine
mod LogLemmas
