-- The features of an engine: DBGp 1.0, "feature_get", "feature_set". Which of them can be set, and
-- to what, is this engine's own where the standard leaves it open.
use Rattle.std.specs.Prelude.{◌≤◌, ℕ, ◌==◌, nat_le, Bool, not, ◌&&◌, List, [], ◌∷◌, Option, Some, None, IfSome, if◌then◌else◌, option_map, option_and_then, codes, decimal}
use Rattle.std.specs.List.{find}
use Rattle.std.specs.Str.{bytes_eq}
use Rattle.dp_bytes.specs.Decimals.{decimal_in}
use Rattle.dp_features.specs.declared.feature.Feature.{Feature}
use Rattle.dp_features.specs.declared.feature.Feature.TheVariants.{LanguageSupportsThreads, LanguageName, LanguageVersion, Encoding, ProtocolVersion, SupportsAsync, DataEncoding, BreakpointLanguages, BreakpointTypes, MultipleSessions, MaxChildren, MaxData, MaxDepth, ShowHidden, NotifyOk, ResolvedBreakpoints, SupportsPostmortem}

-- ---- names

abbrev pub name_of : Feature → List ℕ
name_of LanguageSupportsThreads = codes "language_supports_threads"
name_of LanguageName = codes "language_name"
name_of LanguageVersion = codes "language_version"
name_of Encoding = codes "encoding"
name_of ProtocolVersion = codes "protocol_version"
name_of SupportsAsync = codes "supports_async"
name_of DataEncoding = codes "data_encoding"
name_of BreakpointLanguages = codes "breakpoint_languages"
name_of BreakpointTypes = codes "breakpoint_types"
name_of MultipleSessions = codes "multiple_sessions"
name_of MaxChildren = codes "max_children"
name_of MaxData = codes "max_data"
name_of MaxDepth = codes "max_depth"
name_of ShowHidden = codes "show_hidden"
name_of NotifyOk = codes "notify_ok"
name_of ResolvedBreakpoints = codes "resolved_breakpoints"
name_of SupportsPostmortem = codes "supports_postmortem"

abbrev pub every_feature : List Feature
every_feature =
    LanguageSupportsThreads ∷ LanguageName ∷ LanguageVersion ∷ Encoding ∷ ProtocolVersion
    ∷ SupportsAsync ∷ DataEncoding ∷ BreakpointLanguages ∷ BreakpointTypes ∷ MultipleSessions
    ∷ MaxChildren ∷ MaxData ∷ MaxDepth ∷ ShowHidden ∷ NotifyOk ∷ ResolvedBreakpoints
    ∷ SupportsPostmortem ∷ []

-- the feature of this name, with regard to case
unfoldable pub feature_named : List ℕ → Option Feature
feature_named name = find (λ feature. bytes_eq (name_of feature) name) every_feature

-- ---- values

-- the most bytes of a value that is reported
abbrev pub value_limit : ℕ
value_limit = 64

-- the most entries of a page, if none is set
abbrev pub default_children : ℕ
default_children = 32

-- the most bytes of a text that are shown, if none is set
abbrev pub default_data : ℕ
default_data = 1024

-- the values of the features that are set to numbers
pub record Features : Type 0 where
  pub multiple_sessions : ℕ
  pub max_children : ℕ
  pub max_data : ℕ
  pub max_depth : ℕ
  pub show_hidden : ℕ
  pub notify_ok : ℕ
  pub resolved_breakpoints : ℕ

-- what a session begins with
abbrev pub defaults : Features
defaults = record {
  multiple_sessions = 0;
  max_children = default_children;
  max_data = default_data;
  max_depth = 1;
  show_hidden = 0;
  notify_ok = 0;
  resolved_breakpoints = 0;
}

-- the value that is reported
abbrev pub value_of : Features → Feature → List ℕ
value_of features LanguageSupportsThreads = codes "0"
value_of features LanguageName = codes "PHP"
value_of features LanguageVersion = codes "8.3"
value_of features Encoding = codes "iso-8859-1"
value_of features ProtocolVersion = codes "1"
value_of features SupportsAsync = codes "0"
value_of features DataEncoding = codes "base64"
value_of features BreakpointLanguages = codes "PHP"
value_of features BreakpointTypes = codes "line call return conditional"
value_of features MultipleSessions = decimal features.multiple_sessions
value_of features MaxChildren = decimal features.max_children
value_of features MaxData = decimal features.max_data
value_of features MaxDepth = decimal features.max_depth
value_of features ShowHidden = decimal features.show_hidden
value_of features NotifyOk = decimal features.notify_ok
value_of features ResolvedBreakpoints = decimal features.resolved_breakpoints
value_of features SupportsPostmortem = codes "0"

-- ---- what may be set

-- the most entries of a page, and the most bytes of a text, that can be asked for
abbrev pub shown_limit : ℕ
shown_limit = 1048576

-- the most levels of arrays in one another that can be asked for
abbrev pub depth_limit : ℕ
depth_limit = 32

-- the lowest and the greatest number that a feature can be set to
abbrev pub range_of : Feature → Option (ℕ × ℕ)
range_of MultipleSessions = Some (0, 1)
range_of MaxChildren = Some (1, shown_limit)
range_of MaxData = Some (0, shown_limit)
range_of MaxDepth = Some (0, depth_limit)
range_of ShowHidden = Some (0, 1)
range_of NotifyOk = Some (0, 1)
range_of ResolvedBreakpoints = Some (0, 1)
range_of feature = None

-- the number is in the feature's range, where it has one
abbrev pub IsInRange : Feature → ℕ → Type 0
IsInRange feature number =
    IfSome (range_of feature) (λ range. (range.0 ≤ number) × (number ≤ range.1))

-- the number of a decimal in this range
abbrev pub number_in : List ℕ → ℕ × ℕ → Option ℕ
number_in value range =
    option_and_then (λ n. if nat_le range.0 n then Some n else None) (decimal_in range.1 value)

-- the number of a value that the feature can be set to; the one encoding there is has 0
abbrev pub number_of : Feature → List ℕ → Option ℕ
number_of Encoding value = if bytes_eq value (codes "iso-8859-1") then Some 0 else None
number_of feature value = option_and_then (number_in value) (range_of feature)

-- a feature, and the number of a value that it can be set to
abbrev pub setting_of : Feature → List ℕ → Option (Feature × ℕ)
setting_of feature value = option_map (λ number. (feature, number)) (number_of feature value)

-- the same, of the feature of this name
abbrev pub setting_named : List ℕ → List ℕ → Option (Feature × ℕ)
setting_named name value =
    option_and_then (λ feature. setting_of feature value) (feature_named name)

-- another encoding than the one that there is
abbrev pub is_other_encoding : List ℕ → List ℕ → Bool
is_other_encoding name value =
    bytes_eq name (codes "encoding") && not (bytes_eq value (codes "iso-8859-1"))

-- with a feature set to this number
abbrev pub with_number : Feature → ℕ → Features → Features
with_number MultipleSessions number features = record features { multiple_sessions = number }
with_number MaxChildren number features = record features { max_children = number }
with_number MaxData number features = record features { max_data = number }
with_number MaxDepth number features = record features { max_depth = number }
with_number ShowHidden number features = record features { show_hidden = number }
with_number NotifyOk number features = record features { notify_ok = number }
with_number ResolvedBreakpoints number features =
    record features { resolved_breakpoints = number }
with_number feature number features = features

abbrev pub with_setting : Feature × ℕ → Features → Features
with_setting setting features = with_number setting.0 setting.1 features

-- each number is in its feature's range
pub record AreInRange (features : Features) : Type 0 where
  pub multiple_sessions : IsInRange MultipleSessions features.multiple_sessions
  pub max_children : IsInRange MaxChildren features.max_children
  pub max_data : IsInRange MaxData features.max_data
  pub max_depth : IsInRange MaxDepth features.max_depth
  pub show_hidden : IsInRange ShowHidden features.show_hidden
  pub notify_ok : IsInRange NotifyOk features.notify_ok
  pub resolved_breakpoints : IsInRange ResolvedBreakpoints features.resolved_breakpoints

-- ---- what is switched on

-- a breakpoint on a line without code goes to the next line that has code
abbrev pub resolves : Features → Bool
resolves features = features.resolved_breakpoints == 1

-- the IDE takes news that it did not ask for
abbrev pub notifies : Features → Bool
notifies features = features.notify_ok == 1
