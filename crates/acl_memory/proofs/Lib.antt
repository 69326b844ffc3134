mod Appending
mod Prefixes
mod Replacing
mod SureLaws
