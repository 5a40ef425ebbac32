pub mod MadeFiles
