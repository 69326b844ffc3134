-- The line that is printed of a fault.
use Rattle.std.specs.Prelude.{ℕ, ◌&&◌, ◌==◌, nat_le, if◌then◌else◌, List, [], ◌∷◌, ◌++◌, take, map, codes, decimal}
use Rattle.acl_text.specs.declared.faults.Code.{Code}
use Rattle.acl_text.specs.declared.faults.Code.TheVariants.{TooLong, BadByte, BadName, NoDefinition, BadValue, Twice, TooMany, Undefined, Cycle, TooManyFiles, NoFile, IncludeDepth, IncludePath, Syntax, Keyword, Value, Repeated, Missing, TermTwice, TargetLine, FilterTwice, UnknownName, NoPortForProtocol, PortProtocol, IcmpProtocol, OptionProtocol, ResetProtocol, OptionClash, IncludeCount, ExtensionHeader, NameLength, NameClash, Unsupported, TooManyEntries, TooManyPrefixes, IcmpCode, NoPolicy, NoDocument, NoSection, Shaded, NumberRange}
use Rattle.acl_text.specs.declared.faults.Fault.{Fault}

-- The number and the name of a fault. docs/LANGUAGE.md lists those that `aclgen` answers.
abbrev pub code_text : Code → List ℕ
code_text TooLong = codes "F10 TooLong"
code_text BadByte = codes "F11 BadByte"
code_text BadName = codes "F12 BadName"
code_text NoDefinition = codes "F13 NoDefinition"
code_text BadValue = codes "F14 BadValue"
code_text Twice = codes "F15 Twice"
code_text TooMany = codes "F16 TooMany"
code_text Undefined = codes "F17 Undefined"
code_text Cycle = codes "F18 Cycle"
code_text TooManyFiles = codes "F19 TooManyFiles"
code_text NoFile = codes "F20 NoFile"
code_text IncludeDepth = codes "F21 IncludeDepth"
code_text IncludePath = codes "F22 IncludePath"
code_text Syntax = codes "F23 Syntax"
code_text Keyword = codes "F24 Keyword"
code_text Value = codes "F25 Value"
code_text Repeated = codes "F26 Repeated"
code_text Missing = codes "F27 Missing"
code_text TermTwice = codes "F28 TermTwice"
code_text TargetLine = codes "F29 TargetLine"
code_text FilterTwice = codes "F30 FilterTwice"
code_text UnknownName = codes "F31 UnknownName"
code_text NoPortForProtocol = codes "F32 NoPortForProtocol"
code_text PortProtocol = codes "F33 PortProtocol"
code_text IcmpProtocol = codes "F34 IcmpProtocol"
code_text OptionProtocol = codes "F35 OptionProtocol"
code_text ResetProtocol = codes "F36 ResetProtocol"
code_text OptionClash = codes "F37 OptionClash"
code_text IncludeCount = codes "F39 IncludeCount"
code_text ExtensionHeader = codes "F40 ExtensionHeader"
code_text NameLength = codes "F41 NameLength"
code_text NameClash = codes "F42 NameClash"
code_text Unsupported = codes "F43 Unsupported"
code_text TooManyEntries = codes "F44 TooManyEntries"
code_text TooManyPrefixes = codes "F45 TooManyPrefixes"
code_text IcmpCode = codes "F46 IcmpCode"
code_text NoPolicy = codes "F47 NoPolicy"
code_text NoDocument = codes "F48 NoDocument"
code_text NoSection = codes "F49 NoSection"
code_text Shaded = codes "F50 Shaded"
code_text NumberRange = codes "F51 NumberRange"

-- the line's number, where there is a line
abbrev pub line_text : ℕ → List ℕ
line_text line = if line == 0 then [] else codes ":" ++ decimal line

-- A byte that is no visible ASCII is printed as `?`.
abbrev pub visible : ℕ → ℕ
visible b = if nat_le 33 b && nat_le b 126 then b else 63

-- the first 64 bytes of the word, where there is one
abbrev pub word_text : List ℕ → List ℕ
word_text [] = []
word_text (b ∷ bs) = codes " " ++ map visible (take 64 (b ∷ bs))

-- LABEL:LINE: CODE WORD
unfoldable pub fault_line : Fault → List ℕ
fault_line f = f.label ++ line_text f.line ++ codes ": " ++ code_text f.code ++ word_text f.word ++ codes "\n"
