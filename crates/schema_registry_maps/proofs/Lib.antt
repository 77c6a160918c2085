mod Changes
mod Last
mod Numbers
