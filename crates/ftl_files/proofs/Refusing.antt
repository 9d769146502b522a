-- A document is refused where no settings are what it says.
use Rattle.std.proofs.Common.{◌≡◌, ◌≢◌, ◌∙◌, ℕ, List, Some, subst, sym}
use Rattle.toml.specs.Data.{Members}
use Rattle.toml.specs.Parse.{parse_document}
use Rattle.ftl_files.proofs.ListedNames.{some_is_injective}
use Rattle.ftl_files.specs.Settings.{Says}
use Rattle.ftl_files.specs.declared.settings_fault.SettingsFault.{SettingsFault}
use Rattle.ftl_files.specs.declared.settings_fault.SettingsFault.TheVariants.{Memory}
use Rattle.ftl_files.specs.declared.settings.Settings.{Settings}

pub document_with_fault_says_no_settings : (text : List ℕ) (found : Members) (fault : SettingsFault) →
    parse_document text ≡ Some found →
    (fault ≢ Memory → (settings : Settings) → Says found settings → ⊥) → fault ≢ Memory →
    (document : Members) (settings : Settings) → parse_document text ≡ Some document → Says document settings → ⊥
document_with_fault_says_no_settings text found fault reads none other document settings is says =
    let same : document ≡ found = some_is_injective _ _ (sym is ∙ reads) in
    none other settings (subst (λ d. Says d settings) same says)
