-- How a run ends: the status's number, and what the program says of it. This project's own.
use Rattle.std.specs.Prelude.{ℕ, List, [], ◌++◌, codes, decimal}
use Rattle.pcm_base.specs.Numbers.{errno_number}
use Rattle.pcm_base.specs.declared.state.Errno.{Errno}
use Rattle.pcm_text.specs.Names.{errno_name}
use Rattle.pcm_line.specs.declared.error.LineError.{LineError}
use Rattle.pcm_line.specs.declared.error.LineError.TheVariants as line
use Rattle.wav_file.specs.declared.wav.WavError.{WavError}
use Rattle.wav_file.specs.declared.wav.WavError.TheVariants as wav
use Rattle.pcm_text.specs.declared.status.Status.{Status}
use Rattle.pcm_text.specs.declared.status.Status.TheVariants as status
use Rattle.pcm_text.specs.declared.status.Which.{Which}
use Rattle.pcm_text.specs.declared.status.Which.TheVariants as which

abbrev pub status_number : Status → ℕ
status_number status.Ok = 0
status_number status.Usage = 1
status_number (status.BadLine line error) = 2
status_number status.ReadFault = 3
status_number status.WriteFault = 4
status_number status.ShelfFault = 5
status_number (status.Missing name) = 6
status_number (status.BadWav name error) = 7
status_number status.Memory = 8
status_number (status.Limit which value) = 9
status_number (status.Refused errno) = 10

abbrev pub which_name : Which → List ℕ
which_name which.ScriptBytes = codes "ScriptBytes"
which_name which.ScriptLines = codes "ScriptLines"
which_name which.WavBytes = codes "WavBytes"
which_name which.TakenBytes = codes "TakenBytes"
which_name which.CaptureBytes = codes "CaptureBytes"
which_name which.GenNumber = codes "GenNumber"
which_name which.PlanBytes = codes "PlanBytes"
which_name which.PlanLines = codes "PlanLines"
which_name which.Beats = codes "Beats"
which_name which.LogEntries = codes "LogEntries"

-- the fault of a line; no run ends with its last case
abbrev pub line_fault : LineError → List ℕ
line_fault (line.Word at) = codes "word at " ++ decimal at
line_fault (line.Number at) = codes "number at " ++ decimal at
line_fault line.Short = codes "short"
line_fault (line.Long at) = codes "long at " ++ decimal at
line_fault line.Memory = codes "out of memory"

abbrev pub bad_line : ℕ → LineError → List ℕ
bad_line line error = codes "bad line " ++ decimal line ++ codes ": " ++ line_fault error

-- the fault of a file; no run ends with its last two cases
abbrev pub wav_fault : WavError → List ℕ
wav_fault wav.NotRiff = codes "not RIFF"
wav_fault wav.NoFmt = codes "no fmt"
wav_fault wav.NoData = codes "no data"
wav_fault (wav.BadFmt at) = codes "bad fmt at " ++ decimal at
wav_fault (wav.NotPcm tag) = codes "not PCM " ++ decimal tag
wav_fault (wav.Width bits) = codes "width " ++ decimal bits
wav_fault (wav.TooLong bytes) = codes "too long " ++ decimal bytes
wav_fault wav.Memory = codes "out of memory"

abbrev pub bad_wav : List ℕ → WavError → List ℕ
bad_wav name error = codes "bad wav " ++ name ++ codes ": " ++ wav_fault error

abbrev pub missing : List ℕ → List ℕ
missing name = codes "missing " ++ name

abbrev pub limit : Which → ℕ → List ℕ
limit which value = codes "limit " ++ which_name which ++ codes " " ++ decimal value

abbrev pub refused : Errno → List ℕ
refused errno = codes "refused " ++ errno_name errno ++ codes " " ++ decimal (errno_number errno)

-- what stands after the program's name; nothing where all went well
abbrev pub fault_line : Status → List ℕ
fault_line status.Ok = []
fault_line status.Usage = codes "usage"
fault_line (status.BadLine line error) = bad_line line error
fault_line status.ReadFault = codes "read failed"
fault_line status.WriteFault = codes "write failed"
fault_line status.ShelfFault = codes "file access failed"
fault_line (status.Missing name) = missing name
fault_line (status.BadWav name error) = bad_wav name error
fault_line status.Memory = codes "out of memory"
fault_line (status.Limit which value) = limit which value
fault_line (status.Refused errno) = refused errno
